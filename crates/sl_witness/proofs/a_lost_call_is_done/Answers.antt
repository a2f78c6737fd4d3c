use Rattle.sl_witness.proofs.Anew.{a_lost_call_is_done}
use Rattle.sl_witness.proofs.a_lost_call_is_done.Goals as goal

pub returns : goal.returns
returns c = a_lost_call_is_done
