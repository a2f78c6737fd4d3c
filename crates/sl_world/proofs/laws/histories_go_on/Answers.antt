use Rattle.sl_world.proofs.Events.{goes_on}
use Rattle.sl_world.proofs.laws.histories_go_on.Goals as goal

pub returns : goal.returns
returns c = goes_on
