use Rattle.sl_examples.proofs.Cells.{cells_are_told_apart}
use Rattle.sl_examples.proofs.cells_are_told_apart.Goals as goal

pub returns : goal.returns
returns c = cells_are_told_apart
