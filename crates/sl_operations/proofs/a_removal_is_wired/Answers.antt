use Rattle.sl_operations.proofs.WiredRemoves.{a_removal_is_wired}
use Rattle.sl_operations.proofs.a_removal_is_wired.Goals as goal

pub returns : goal.returns
returns c = a_removal_is_wired
