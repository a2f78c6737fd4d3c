use Rattle.sl_world.proofs.Following.{opened_follows}
use Rattle.sl_world.proofs.laws.openings_are_followed.Goals as goal

pub returns : goal.returns
returns c = opened_follows
