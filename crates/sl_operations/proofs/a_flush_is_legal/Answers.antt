use Rattle.sl_operations.proofs.LawfulFlush.{a_flush_is_legal}
use Rattle.sl_operations.proofs.a_flush_is_legal.Goals as goal

pub returns : goal.returns
returns c = a_flush_is_legal
