use Rattle.std.proofs.Common.{not, sym, subst}
use Rattle.std.specs.Bool.{Decides}
use Rattle.sl_past.specs.Words.{remark_of}
use Rattle.sl_past.specs.declared.remark.Remark as remark
use Rattle.sl_history.specs.Remembering.{MayNote}
use Rattle.sl_recall.proofs.AskingLaws.{may_send}
use Rattle.sl_recall.proofs.remembering.may_note.Goals as goal

pub returns-in-Sent : goal.returns-in-Sent
returns-in-Sent c = λ h is.
    subst (λ (x : remark.Remark). Decides (not c.asks_again.result) (MayNote h (remark_of x))) (sym c.in-Sent.is) (may_send h c.in-Sent.frame.arrival c.in-Sent.frame.body c.asks_again.result (c.asks_again.ensures h is))
