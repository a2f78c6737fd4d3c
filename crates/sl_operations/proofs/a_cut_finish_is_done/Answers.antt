use Rattle.sl_operations.proofs.CutFinishes.{a_cut_finish_is_done}
use Rattle.sl_operations.proofs.a_cut_finish_is_done.Goals as goal

pub returns : goal.returns
returns c = a_cut_finish_is_done
