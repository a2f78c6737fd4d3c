use Rattle.sl_refusals.proofs.Drops.{junk_is_told_apart}
use Rattle.sl_refusals.proofs.junk_is_told_apart.Goals as goal

pub returns : goal.returns
returns c = junk_is_told_apart
