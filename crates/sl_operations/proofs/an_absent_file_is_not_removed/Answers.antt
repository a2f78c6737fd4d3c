use Rattle.sl_operations.proofs.RemovesAgain.{an_absent_file_is_not_removed}
use Rattle.sl_operations.proofs.an_absent_file_is_not_removed.Goals as goal

pub returns : goal.returns
returns c = an_absent_file_is_not_removed
