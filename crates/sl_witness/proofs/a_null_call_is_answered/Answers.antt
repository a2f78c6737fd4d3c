use Rattle.sl_witness.proofs.Answered.{a_null_call_is_answered}
use Rattle.sl_witness.proofs.a_null_call_is_answered.Goals as goal

pub returns : goal.returns
returns c = a_null_call_is_answered
