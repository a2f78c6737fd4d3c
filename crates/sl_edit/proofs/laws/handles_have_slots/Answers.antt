use Rattle.sl_edit.proofs.CallSlots.{handles}
use Rattle.sl_edit.proofs.laws.handles_have_slots.Goals as goal

pub returns : goal.returns
returns c = handles
