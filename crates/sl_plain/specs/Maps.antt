-- What the program's maps stand for.
use Rattle.std.specs.Prelude.{ℕ, List}
use Rattle.std.specs.declared.cmp.Ordering.{Ordering}
use Rattle.std.specs.Ordering.{nat_cmp, ordering_then}
use Rattle.std.specs.Cmp.Lexicographic.{slice_cmp}
use Rattle.sl_model.specs.declared.node.Entry.{Entry}
use Rattle.sl_plain.specs.declared.names.Place.{Place}

-- a name by its directory and its bytes
abbrev pub named : Place × Entry → (ℕ × List ℕ) × Entry
named e = ((e.0.dir, e.0.name.items), e.1)

-- a place by its directory and the bytes of its name
abbrev pub key_of : Place → ℕ × List ℕ
key_of p = (p.dir, p.name.items)

-- the order of places: by directory, and then by the bytes of the name
abbrev pub place_order : Place → Place → Ordering
place_order a b = ordering_then (nat_cmp a.dir b.dir) (slice_cmp nat_cmp a.name.items b.name.items)
