use Rattle.std.proofs.Common.{ap}
use Rattle.sl_recall.specs.declared.changes.Changes.{Changes}
use Rattle.sl_recall.proofs.ChangeLaws.{begins_behind, begins_quiet}
use Rattle.sl_recall.proofs.changes.Changes.begin.Goals.{then-self-ne0, else-self-ne0}
use Rattle.sl_recall.proofs.changes.Changes.begin.Goals as goal

pub returns : goal.returns
returns c = λ h x m e is.
    let new : Changes = record { newest = c.args.event; last = c.if-self-ne0.self.last; before = c.if-self-ne0.self.before } in
    elim c.if-self-ne0.branch [
      | then-self-ne0 w ↦ begins_behind h c.args.self.now new x m is w.if-self-ne0.true e (ap (λ (s : Changes). s.last) w.self-is) (ap (λ (s : Changes). s.before) w.self-is)
      | else-self-ne0 w ↦ begins_quiet h c.args.self.now new x m is w.if-self-ne0.false e (ap (λ (s : Changes). s.last) w.self-is) (ap (λ (s : Changes). s.before) w.self-is)
    ]
