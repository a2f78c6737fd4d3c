use Rattle.sl_licence.proofs.Sending.{none_sent}
use Rattle.sl_licence.proofs.asking.Requests.new.Goals as goal

pub returns : goal.returns
returns c = none_sent (record { sent = c.new.result }) c.new.ensures.empty
