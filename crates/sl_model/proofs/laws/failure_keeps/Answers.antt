use Rattle.sl_model.proofs.Keeping.{failure_keeps}
use Rattle.sl_model.proofs.laws.failure_keeps.Goals as goal

pub returns : goal.returns
returns c = failure_keeps
