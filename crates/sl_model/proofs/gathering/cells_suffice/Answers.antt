use Rattle.sl_model.proofs.Cells.{cells_suffice}
use Rattle.sl_model.proofs.gathering.cells_suffice.Goals as goal

pub returns : goal.returns
returns c = cells_suffice
