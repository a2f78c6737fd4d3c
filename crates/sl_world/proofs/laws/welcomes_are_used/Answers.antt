use Rattle.sl_world.proofs.Using.{used_welcome}
use Rattle.sl_world.proofs.laws.welcomes_are_used.Goals as goal

pub returns : goal.returns
returns c = used_welcome
