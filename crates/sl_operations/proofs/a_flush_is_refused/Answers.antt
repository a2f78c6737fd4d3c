use Rattle.sl_operations.proofs.Refusals.{a_flush_is_refused}
use Rattle.sl_operations.proofs.a_flush_is_refused.Goals as goal

pub returns : goal.returns
returns c = a_flush_is_refused
