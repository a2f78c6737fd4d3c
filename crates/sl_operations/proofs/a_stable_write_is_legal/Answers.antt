use Rattle.sl_operations.proofs.Lawful.{a_stable_write_is_legal}
use Rattle.sl_operations.proofs.a_stable_write_is_legal.Goals as goal

pub returns : goal.returns
returns c = a_stable_write_is_legal
