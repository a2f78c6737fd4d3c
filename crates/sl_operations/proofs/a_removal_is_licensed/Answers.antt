use Rattle.sl_operations.proofs.LicensedRemoves.{a_removal_is_licensed}
use Rattle.sl_operations.proofs.a_removal_is_licensed.Goals as goal

pub returns : goal.returns
returns c = a_removal_is_licensed
