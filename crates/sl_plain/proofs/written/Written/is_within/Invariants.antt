use Rattle.std.specs.FinMap as map
use Rattle.sl_plain.proofs.DifferingLaws.{Within}
use Rattle.sl_plain.proofs.written.Written.is_within.Given as goal

-- those that are left are in the other map exactly if all are
abbrev pub invariant-loop-place : goal.invariant-loop-place
invariant-loop-place l = Within l.other (map.entries l.self) l.place-iterator
