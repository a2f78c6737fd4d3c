use Rattle.sl_edit.proofs.ReplySlots.{attributes}
use Rattle.sl_edit.proofs.laws.attributes_have_slots.Goals as goal

pub returns : goal.returns
returns c = attributes
