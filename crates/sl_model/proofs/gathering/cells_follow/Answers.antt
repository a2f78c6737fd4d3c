use Rattle.sl_model.proofs.Cells.{cells_follow}
use Rattle.sl_model.proofs.gathering.cells_follow.Goals as goal

pub returns : goal.returns
returns c = cells_follow
