use Rattle.sl_laws.proofs.Climbing.{parents_end_at_root}
use Rattle.sl_laws.proofs.laws.parents_end_at_root.Goals as goal

pub returns : goal.returns
returns c = parents_end_at_root
