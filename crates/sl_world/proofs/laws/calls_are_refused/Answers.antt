use Rattle.sl_world.proofs.Giving.{given_refusal}
use Rattle.sl_world.proofs.laws.calls_are_refused.Goals as goal

pub returns : goal.returns
returns c = given_refusal
