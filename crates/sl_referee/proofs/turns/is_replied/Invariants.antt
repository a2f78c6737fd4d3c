use Rattle.sl_history.specs.Turns.{Replied}
use Rattle.sl_referee.proofs.Replying.{NotYet}
use Rattle.sl_referee.proofs.turns.is_replied.Given as goal

abbrev pub invariant-loop-remark : goal.invariant-loop-remark
invariant-loop-remark l = NotYet l.remarks (Replied l.newest l.newest l.answer) l.remark-index
