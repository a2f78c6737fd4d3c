use Rattle.sl_transport.proofs.Counting.{are_numbered}
use Rattle.sl_transport.proofs.laws.frames_are_numbered.Goals as goal

pub returns : goal.returns
returns c = are_numbered
