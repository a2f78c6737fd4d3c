use Rattle.sl_laws.proofs.History.{always_a_tree}
use Rattle.sl_laws.proofs.laws.always_a_tree.Goals as goal

pub returns : goal.returns
returns c = always_a_tree
