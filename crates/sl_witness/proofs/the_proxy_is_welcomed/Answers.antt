use Rattle.sl_witness.proofs.Welcomes.{the_proxy_is_welcomed}
use Rattle.sl_witness.proofs.the_proxy_is_welcomed.Goals as goal

pub returns : goal.returns
returns c = the_proxy_is_welcomed
