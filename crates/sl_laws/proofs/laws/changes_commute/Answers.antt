use Rattle.sl_laws.proofs.Commuting.{changes_commute}
use Rattle.sl_laws.proofs.laws.changes_commute.Goals as goal

pub returns : goal.returns
returns c = changes_commute
