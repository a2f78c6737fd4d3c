use Rattle.sl_refusals.proofs.Moments.{moments_are_told_apart}
use Rattle.sl_refusals.proofs.moments_are_told_apart.Goals as goal

pub returns : goal.returns
returns c = moments_are_told_apart
