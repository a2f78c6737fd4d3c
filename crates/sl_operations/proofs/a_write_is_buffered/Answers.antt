use Rattle.sl_operations.proofs.Buffers.{a_write_is_buffered}
use Rattle.sl_operations.proofs.a_write_is_buffered.Goals as goal

pub returns : goal.returns
returns c = a_write_is_buffered
