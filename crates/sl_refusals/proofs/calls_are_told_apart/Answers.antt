use Rattle.sl_refusals.proofs.Looks.{calls_are_told_apart}
use Rattle.sl_refusals.proofs.calls_are_told_apart.Goals as goal

pub returns : goal.returns
returns c = calls_are_told_apart
