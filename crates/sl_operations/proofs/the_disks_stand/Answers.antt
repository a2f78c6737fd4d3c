use Rattle.sl_operations.proofs.Stands.{the_disks_stand}
use Rattle.sl_operations.proofs.the_disks_stand.Goals as goal

pub returns : goal.returns
returns c = the_disks_stand
