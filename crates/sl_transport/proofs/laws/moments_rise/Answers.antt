use Rattle.sl_transport.proofs.Counting.{moments_rise}
use Rattle.sl_transport.proofs.laws.moments_rise.Goals as goal

pub returns : goal.returns
returns c = moments_rise
