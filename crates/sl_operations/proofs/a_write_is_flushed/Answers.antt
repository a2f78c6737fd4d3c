use Rattle.sl_operations.proofs.Commits.{a_write_is_flushed}
use Rattle.sl_operations.proofs.a_write_is_flushed.Goals as goal

pub returns : goal.returns
returns c = a_write_is_flushed
