use Rattle.std.proofs.Common.{List, ◌∷◌, ap, subst, ◌∙◌}
use Rattle.std.specs.Prelude.{map}
use Rattle.std.proofs.lemmas.List.{take_all}
use Rattle.sl_defs.specs.Histories.{Happening}
use Rattle.sl_past.specs.Words.{remark_of}
use Rattle.sl_history.specs.Turns.{Remark, begun, so_far}
use Rattle.sl_ledger.specs.Ledgers.{IsLedgerOf}
use Rattle.sl_recall.proofs.completed.take_turn.Goals as goal

pub loop-remark-init : goal.loop-remark-init
loop-remark-init c = λ past is.
    subst (λ (x : Happening). IsLedgerOf (begun past x c.args.turn.now.moment) c.begin.new.self) c.happening.ensures (c.in_ok-begin.ensures past c.args.turn.now.moment is)

pub returns : goal.returns
returns c = λ past is.
    subst (λ (rs : List Remark). IsLedgerOf (so_far c.args.turn.now rs ∷ past) c.loop-remark.ledger)
    (ap (map remark_of) (take_all c.loop-remark.remark-index c.remarks-remark-items.result.now c.loop-remark-test.false) ∙ c.remarks-remark-items.ensures) (c.loop-remark.invariant past is)
