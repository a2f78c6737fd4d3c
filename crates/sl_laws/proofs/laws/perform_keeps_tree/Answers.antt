use Rattle.sl_laws.proofs.Performing.{perform_keeps_tree}
use Rattle.sl_laws.proofs.laws.perform_keeps_tree.Goals as goal

pub returns : goal.returns
returns c = perform_keeps_tree
