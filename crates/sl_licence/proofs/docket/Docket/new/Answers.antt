use Rattle.sl_licence.proofs.Docketing.{nothing_yet}
use Rattle.sl_licence.proofs.docket.Docket.new.Goals as goal

pub returns : goal.returns
returns c = nothing_yet c.args.volume c.in_ok-evidence.evidence c.in_ok-evidence.ensures
