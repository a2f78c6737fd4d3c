use Rattle.sl_transport.proofs.Asks.{only_the_proxy_asks}
use Rattle.sl_transport.proofs.laws.the_proxy_alone_asks.Goals as goal

pub returns : goal.returns
returns c = only_the_proxy_asks
