use Rattle.sl_refusals.proofs.Drops.{losses_are_told_apart}
use Rattle.sl_refusals.proofs.losses_are_told_apart.Goals as goal

pub returns : goal.returns
returns c = losses_are_told_apart
