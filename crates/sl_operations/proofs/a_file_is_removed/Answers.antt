use Rattle.sl_operations.proofs.Removes.{a_file_is_removed}
use Rattle.sl_operations.proofs.a_file_is_removed.Goals as goal

pub returns : goal.returns
returns c = a_file_is_removed
