use Rattle.sl_transport.proofs.Sending.{up_alike}
use Rattle.sl_transport.proofs.laws.actors_are_up_alike.Goals as goal

pub returns : goal.returns
returns c = up_alike
