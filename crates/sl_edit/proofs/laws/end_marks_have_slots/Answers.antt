use Rattle.sl_edit.proofs.ReplySlots.{end_marks}
use Rattle.sl_edit.proofs.laws.end_marks_have_slots.Goals as goal

pub returns : goal.returns
returns c = end_marks
