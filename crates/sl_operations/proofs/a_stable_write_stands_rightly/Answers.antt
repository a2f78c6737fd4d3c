use Rattle.sl_operations.proofs.Granted.{a_stable_write_stands_rightly}
use Rattle.sl_operations.proofs.a_stable_write_stands_rightly.Goals as goal

pub returns : goal.returns
returns c = a_stable_write_stands_rightly
