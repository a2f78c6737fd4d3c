use Rattle.sl_operations.proofs.CutDecisions.{a_lost_decision_is_done}
use Rattle.sl_operations.proofs.a_lost_decision_is_done.Goals as goal

pub returns : goal.returns
returns c = a_lost_decision_is_done
