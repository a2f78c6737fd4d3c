use Rattle.std.proofs.Common.{◌-◌, length, drop, refl}
use Rattle.sl_history.specs.Fenced.{Fenced}
use Rattle.sl_recall.proofs.Walks.{fails, is_one, says_false}
use Rattle.sl_recall.proofs.Fencing.{At, claim}
use Rattle.sl_recall.proofs.fenced.are_fenced.Goals as goal

pub returns-then-not-branch : goal.returns-then-not-branch
returns-then-not-branch c = λ is.
    let h = c.args.history.now in
    let j = c.loop-left.left in
    let t = c.index-history-left.result in
    let there = c.loop-left.invariant.1 is in
    fails Fenced At claim h j (j - 1) t refl c.loop-left-test.true (is_one j (length h) c.loop-left-test.true c.loop-left.invariant.0) c.index-history-left.is
    (says_false c.in_ok-is_fenced_turn.field-0 (At (drop j h) t) c.if-not-branch.true (c.in_ok-is_fenced_turn.ensures.decides (drop j h) there.kept))
