use Rattle.sl_refusals.proofs.Ends.{ends_are_told_apart}
use Rattle.sl_refusals.proofs.ends_are_told_apart.Goals as goal

pub returns : goal.returns
returns c = ends_are_told_apart
