use Rattle.sl_witness.proofs.Forwards.{a_call_is_forwarded}
use Rattle.sl_witness.proofs.a_call_is_forwarded.Goals as goal

pub returns : goal.returns
returns c = a_call_is_forwarded
