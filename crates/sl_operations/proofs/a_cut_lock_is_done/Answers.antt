use Rattle.sl_operations.proofs.CutLocks.{a_cut_lock_is_done}
use Rattle.sl_operations.proofs.a_cut_lock_is_done.Goals as goal

pub returns : goal.returns
returns c = a_cut_lock_is_done
