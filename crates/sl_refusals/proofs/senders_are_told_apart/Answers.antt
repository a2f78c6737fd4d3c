use Rattle.sl_refusals.proofs.Requests.{senders_are_told_apart}
use Rattle.sl_refusals.proofs.senders_are_told_apart.Goals as goal

pub returns : goal.returns
returns c = senders_are_told_apart
