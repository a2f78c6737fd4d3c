use Rattle.sl_refusals.proofs.Names.{listings_are_told_apart}
use Rattle.sl_refusals.proofs.listings_are_told_apart.Goals as goal

pub returns : goal.returns
returns c = listings_are_told_apart
