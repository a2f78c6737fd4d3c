use Rattle.sl_refusals.proofs.Crowds.{crowds_are_told_apart}
use Rattle.sl_refusals.proofs.crowds_are_told_apart.Goals as goal

pub returns : goal.returns
returns c = crowds_are_told_apart
