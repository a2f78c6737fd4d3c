use Rattle.sl_refusals.proofs.Fences.{fences_are_told_apart}
use Rattle.sl_refusals.proofs.fences_are_told_apart.Goals as goal

pub returns : goal.returns
returns c = fences_are_told_apart
