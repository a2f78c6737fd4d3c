use Rattle.sl_witness.proofs.Restarts.{a_proxy_starts_again}
use Rattle.sl_witness.proofs.a_proxy_starts_again.Goals as goal

pub returns : goal.returns
returns c = a_proxy_starts_again
