use Rattle.std.proofs.Common.{◌≡◌, []}
use Rattle.std.specs.Prelude.{map as each}
use Rattle.std.specs.FinMap as map
use Rattle.sl_model.specs.Volume.{listed}
use Rattle.sl_plain.specs.Maps.{named}
use Rattle.sl_plain.proofs.names.Names.listing.Given as goal

-- with the names that are left they are all
abbrev pub invariant-loop-place : goal.invariant-loop-place
invariant-loop-place l = listed l.dir l.cookie l.lines (each named l.place-iterator) ≡ listed l.dir l.cookie [] (map.entries l.self)
