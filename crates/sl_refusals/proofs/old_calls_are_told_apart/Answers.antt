use Rattle.sl_refusals.proofs.Fences.{old_calls_are_told_apart}
use Rattle.sl_refusals.proofs.old_calls_are_told_apart.Goals as goal

pub returns : goal.returns
returns c = old_calls_are_told_apart
