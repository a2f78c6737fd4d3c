use Rattle.sl_world.proofs.Giving.{given_pass}
use Rattle.sl_world.proofs.laws.calls_are_passed_on.Goals as goal

pub returns : goal.returns
returns c = given_pass
