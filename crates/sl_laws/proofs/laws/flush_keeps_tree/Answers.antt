use Rattle.sl_laws.proofs.Flushing.{flush_keeps_tree}
use Rattle.sl_laws.proofs.laws.flush_keeps_tree.Goals as goal

pub returns : goal.returns
returns c = flush_keeps_tree
