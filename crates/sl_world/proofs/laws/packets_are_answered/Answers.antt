use Rattle.sl_world.proofs.Serving.{gives_answer}
use Rattle.sl_world.proofs.laws.packets_are_answered.Goals as goal

pub returns : goal.returns
returns c = gives_answer
