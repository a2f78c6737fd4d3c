use Rattle.sl_witness.proofs.EmptyDisks.{empty_disks_are_sound}
use Rattle.sl_witness.proofs.empty_disks_are_sound.Goals as goal

pub returns : goal.returns
returns c = empty_disks_are_sound c.fresh_is_tree.ensures
