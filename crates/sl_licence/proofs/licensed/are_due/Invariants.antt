use Rattle.std.proofs.Common.{take}
use Rattle.sl_model.specs.Volume.{Volume}
use Rattle.sl_history.specs.Turns.{History}
use Rattle.sl_licence.specs.Dockets.{AreDue, IsDocketOf}
use Rattle.sl_licence.proofs.licensed.are_due.Given as goal

abbrev pub invariant-loop-request : goal.invariant-loop-request
invariant-loop-request l = (start : Volume) (h : History) → IsDocketOf start h l.docket → AreDue start h (take l.request-index l.requests)
