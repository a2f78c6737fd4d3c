use Rattle.std.specs.FinMap as map
use Rattle.sl_plain.proofs.DifferingLaws.{Within}
use Rattle.sl_plain.proofs.used.Used.is_within.Given as goal

-- those that are left are in the other map exactly if all are
abbrev pub invariant-loop-fileid : goal.invariant-loop-fileid
invariant-loop-fileid l = Within l.other (map.entries l.self) l.fileid-iterator
