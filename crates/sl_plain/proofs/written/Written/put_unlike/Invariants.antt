use Rattle.std.specs.FinMap as map
use Rattle.sl_plain.specs.Differing.{IsOther}
use Rattle.sl_plain.proofs.DifferingLaws.{Gathering}
use Rattle.sl_plain.proofs.written.Written.put_unlike.Given as goal

-- with the bytes that are left they are all
abbrev pub invariant-loop-place : goal.invariant-loop-place
invariant-loop-place l = Gathering (IsOther l.other) (map.entries l.self) l.initial.unlike.items l.place-iterator l.unlike.items
