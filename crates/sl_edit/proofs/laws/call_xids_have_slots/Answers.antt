use Rattle.sl_edit.proofs.CallSlots.{call_xids}
use Rattle.sl_edit.proofs.laws.call_xids_have_slots.Goals as goal

pub returns : goal.returns
returns c = call_xids
