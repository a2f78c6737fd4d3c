use Rattle.sl_refusals.proofs.Sites.{sites_are_told_apart}
use Rattle.sl_refusals.proofs.sites_are_told_apart.Goals as goal

pub returns : goal.returns
returns c = sites_are_told_apart
