use Rattle.sl_edit.proofs.CallSlots.{counts}
use Rattle.sl_edit.proofs.laws.counts_have_slots.Goals as goal

pub returns : goal.returns
returns c = counts
