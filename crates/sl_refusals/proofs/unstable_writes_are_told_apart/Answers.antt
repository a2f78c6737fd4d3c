use Rattle.sl_refusals.proofs.Flushes.{unstable_writes_are_told_apart}
use Rattle.sl_refusals.proofs.unstable_writes_are_told_apart.Goals as goal

pub returns : goal.returns
returns c = unstable_writes_are_told_apart
