use Rattle.sl_operations.proofs.Creates.{a_file_is_made}
use Rattle.sl_operations.proofs.a_file_is_made.Goals as goal

pub returns : goal.returns
returns c = a_file_is_made
