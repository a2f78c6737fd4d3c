use Rattle.sl_refusals.proofs.Names.{names_are_told_apart}
use Rattle.sl_refusals.proofs.names_are_told_apart.Goals as goal

pub returns : goal.returns
returns c = names_are_told_apart
