use Rattle.sl_edit.proofs.ReplySlots.{verifiers}
use Rattle.sl_edit.proofs.laws.verifiers_have_slots.Goals as goal

pub returns : goal.returns
returns c = verifiers
