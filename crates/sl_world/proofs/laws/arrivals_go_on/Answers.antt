use Rattle.sl_world.proofs.Events.{call_goes_on}
use Rattle.sl_world.proofs.laws.arrivals_go_on.Goals as goal

pub returns : goal.returns
returns c = call_goes_on
