use Rattle.sl_transport.proofs.Sending.{send_rightly}
use Rattle.sl_transport.proofs.laws.frames_are_sent_by_actors.Goals as goal

pub returns : goal.returns
returns c = send_rightly
