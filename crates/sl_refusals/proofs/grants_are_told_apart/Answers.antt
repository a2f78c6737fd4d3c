use Rattle.sl_refusals.proofs.Ungranted.{grants_are_told_apart}
use Rattle.sl_refusals.proofs.grants_are_told_apart.Goals as goal

pub returns : goal.returns
returns c = grants_are_told_apart
