use Rattle.sl_operations.proofs.Finishes.{a_stable_write_is_done}
use Rattle.sl_operations.proofs.a_stable_write_is_done.Goals as goal

pub returns : goal.returns
returns c = a_stable_write_is_done
