use Rattle.sl_transport.proofs.Alike.{flies_alike}
use Rattle.sl_transport.proofs.laws.frames_fly_alike.Goals as goal

pub returns : goal.returns
returns c = flies_alike
