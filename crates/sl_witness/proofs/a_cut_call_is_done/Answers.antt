use Rattle.sl_witness.proofs.Cuts.{a_cut_call_is_done}
use Rattle.sl_witness.proofs.a_cut_call_is_done.Goals as goal

pub returns : goal.returns
returns c = a_cut_call_is_done
