use Rattle.sl_witness.proofs.Looks.{a_call_is_replied}
use Rattle.sl_witness.proofs.a_call_is_replied.Goals as goal

pub returns : goal.returns
returns c = a_call_is_replied
