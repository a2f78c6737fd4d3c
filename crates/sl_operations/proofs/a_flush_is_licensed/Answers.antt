use Rattle.sl_operations.proofs.LicensedFlush.{a_flush_is_licensed}
use Rattle.sl_operations.proofs.a_flush_is_licensed.Goals as goal

pub returns : goal.returns
returns c = a_flush_is_licensed
