use Rattle.sl_operations.proofs.LawfulRemoves.{a_removal_is_legal}
use Rattle.sl_operations.proofs.a_removal_is_legal.Goals as goal

pub returns : goal.returns
returns c = a_removal_is_legal
