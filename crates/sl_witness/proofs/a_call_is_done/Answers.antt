use Rattle.sl_witness.proofs.Does.{a_call_is_done}
use Rattle.sl_witness.proofs.a_call_is_done.Goals as goal

pub returns : goal.returns
returns c = a_call_is_done
