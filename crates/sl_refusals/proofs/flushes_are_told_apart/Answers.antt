use Rattle.sl_refusals.proofs.Flushes.{flushes_are_told_apart}
use Rattle.sl_refusals.proofs.flushes_are_told_apart.Goals as goal

pub returns : goal.returns
returns c = flushes_are_told_apart
