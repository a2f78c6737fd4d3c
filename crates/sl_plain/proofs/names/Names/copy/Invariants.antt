use Rattle.std.proofs.Common.{◌≡◌}
use Rattle.std.specs.Prelude.{map as each}
use Rattle.sl_plain.specs.Maps.{named}
use Rattle.sl_plain.proofs.CopyLaws.{overlay}
use Rattle.sl_plain.proofs.names.Names.copy.Given as goal

-- with the names that are left they are all
abbrev pub invariant-loop-place : goal.invariant-loop-place
invariant-loop-place l = overlay (each named l.place-iterator) l.copy ≡ l.self
