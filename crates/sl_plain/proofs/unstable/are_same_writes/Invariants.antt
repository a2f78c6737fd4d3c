use Rattle.std.proofs.Common.{drop}
use Rattle.sl_plain.proofs.UnstableLaws.{SameFrom}
use Rattle.sl_plain.proofs.unstable.are_same_writes.Given as goal

-- those that are left are the same exactly if all are
abbrev pub invariant-loop-i : goal.invariant-loop-i
invariant-loop-i l = SameFrom l.writes l.others (drop l.i l.writes) (drop l.i l.others)
