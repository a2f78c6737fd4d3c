use Rattle.sl_model.proofs.Cells.{restart_keeps_tree}
use Rattle.sl_model.proofs.laws.restart_keeps_tree.Goals as goal

pub returns : goal.returns
returns c = restart_keeps_tree
