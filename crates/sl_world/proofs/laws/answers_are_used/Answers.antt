use Rattle.sl_world.proofs.Using.{used_packet}
use Rattle.sl_world.proofs.laws.answers_are_used.Goals as goal

pub returns : goal.returns
returns c = used_packet
