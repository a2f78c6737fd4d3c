use Rattle.sl_edit.proofs.ReplySlots.{xids}
use Rattle.sl_edit.proofs.laws.reply_xids_have_slots.Goals as goal

pub returns : goal.returns
returns c = xids
