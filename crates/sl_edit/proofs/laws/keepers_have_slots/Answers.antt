use Rattle.sl_edit.proofs.ReplySlots.{keepers_of_objects}
use Rattle.sl_edit.proofs.laws.keepers_have_slots.Goals as goal

pub returns : goal.returns
returns c = keepers_of_objects
