use Rattle.sl_disk.proofs.Replays.{is_new}
use Rattle.sl_disk.proofs.memory.MemShelf.new.Goals as goal

pub returns : goal.returns
returns c = is_new c.new.result.items c.in_ok-new_scripts.field-0.items 64 c.new.ensures.items c.in_ok-new_scripts.ensures
