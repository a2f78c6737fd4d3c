use Rattle.std.proofs.Common.{◌<◌, ◌≤◌, length, sym, arith}
use Rattle.std.proofs.lemmas.Bool.{iff_false, true≢false}
use Rattle.sl_history.specs.Turns.{Replied}
use Rattle.sl_referee.proofs.Replying.{not_here, nowhere}
use Rattle.sl_referee.proofs.turns.is_replied.Goals as goal

pub loop-remark-preserved : goal.loop-remark-preserved
loop-remark-preserved c =
    let within : c.loop-remark.remark-index < length c.args.remarks.now = omega arith in
    not_here c.args.remarks.now (Replied c.args.newest c.args.newest c.args.answer.now) c.loop-remark.remark-index c.remark-item.result within c.remark-item.is
    (iff_false c.is_reply_at_once.ensures c.if-is_reply_at_once.false) c.loop-remark.invariant

pub returns : goal.returns
returns c =
    let all : length c.args.remarks.now ≤ c.loop-remark.remark-index = omega arith in (
      λ e. absurd (true≢false (sym e)),
      λ there. absurd (nowhere c.args.remarks.now (Replied c.args.newest c.args.newest c.args.answer.now) c.loop-remark.remark-index all c.loop-remark.invariant there),
    )
