use Rattle.sl_world.proofs.Handing.{coordinators_go_on}
use Rattle.sl_world.proofs.laws.what_the_coordinator_does_goes_on.Goals as goal

pub returns : goal.returns
returns c = coordinators_go_on
