use Rattle.sl_refusals.proofs.Servers.{servers_are_told_apart}
use Rattle.sl_refusals.proofs.servers_are_told_apart.Goals as goal

pub returns : goal.returns
returns c = servers_are_told_apart
