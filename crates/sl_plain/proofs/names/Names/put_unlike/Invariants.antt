use Rattle.std.specs.Prelude.{[], map as each}
use Rattle.std.specs.FinMap as map
use Rattle.sl_plain.specs.Maps.{named, key_of}
use Rattle.sl_plain.specs.Differing.{IsUnlike}
use Rattle.sl_plain.proofs.DifferingLaws.{Gathering}
use Rattle.sl_plain.proofs.names.Names.put_unlike.Given as goal

-- with the names that are left they are all
abbrev pub invariant-loop-place : goal.invariant-loop-place
invariant-loop-place l = Gathering (IsUnlike l.other) (map.entries l.self) (each key_of l.initial.unlike.items) (each named l.place-iterator) (each key_of l.unlike.items)
