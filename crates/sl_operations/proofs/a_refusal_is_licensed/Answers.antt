use Rattle.sl_operations.proofs.LicensedRefusal.{a_refusal_is_licensed}
use Rattle.sl_operations.proofs.a_refusal_is_licensed.Goals as goal

pub returns : goal.returns
returns c = a_refusal_is_licensed
