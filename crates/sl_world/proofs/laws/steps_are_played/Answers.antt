use Rattle.sl_world.proofs.Playing.{steps_are_played}
use Rattle.sl_world.proofs.laws.steps_are_played.Goals as goal

pub returns : goal.returns
returns c = steps_are_played
