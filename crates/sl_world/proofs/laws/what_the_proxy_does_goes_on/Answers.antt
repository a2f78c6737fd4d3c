use Rattle.sl_world.proofs.Handing.{proxies_go_on}
use Rattle.sl_world.proofs.laws.what_the_proxy_does_goes_on.Goals as goal

pub returns : goal.returns
returns c = proxies_go_on
