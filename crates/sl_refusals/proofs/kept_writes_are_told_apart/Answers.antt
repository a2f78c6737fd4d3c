use Rattle.sl_refusals.proofs.Effects.{kept_writes_are_told_apart}
use Rattle.sl_refusals.proofs.kept_writes_are_told_apart.Goals as goal

pub returns : goal.returns
returns c = kept_writes_are_told_apart
