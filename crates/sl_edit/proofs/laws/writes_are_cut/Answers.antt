use Rattle.sl_edit.proofs.CallSlots.{writes}
use Rattle.sl_edit.proofs.laws.writes_are_cut.Goals as goal

pub returns : goal.returns
returns c = writes
