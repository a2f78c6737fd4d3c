use Rattle.sl_laws.proofs.Fresh.{fresh_is_tree}
use Rattle.sl_laws.proofs.laws.fresh_is_tree.Goals as goal

pub returns : goal.returns
returns c = fresh_is_tree
