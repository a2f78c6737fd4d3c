-- Where two maps and two volumes differ.
use Rattle.std.specs.Prelude.{◌≡◌, ◌≢◌, ◌↔◌, ◌⊎◌, ℕ, List, Some, map as each}
use Rattle.std.specs.Option.{unwrap_or}
use Rattle.std.specs.List.{Contains}
use Rattle.std.specs.declared.cmp.Ordering.{Ordering}
use Rattle.std.specs.FinMap as map
use Rattle.std.specs.FinMap.{FinMap}
use Rattle.sl_model.specs.declared.node.Entry.{Entry}
use Rattle.sl_model.specs.Volume.{Volume, place_cmp}
use Rattle.sl_plain.specs.declared.names.Place.{Place}
use Rattle.sl_plain.specs.declared.differing.Differences.{Differences}
use Rattle.sl_plain.specs.Maps.{key_of}

-- the map has an entry at the key, and it is such a one
abbrev pub HasEntry : {K X : Type 0} {R : K → K → Ordering} → (K × X → Type 0) → FinMap R X → K → Type 0
HasEntry {X = X} Is m q = (x : X) × (map.get m q ≡ Some x) × Is (q, x)

-- the keys of such entries of the map come to the old ones
abbrev pub Gathers : {K X : Type 0} {R : K → K → Ordering} → (K × X → Type 0) → FinMap R X → List K → List K → Type 0
Gathers {K} Is m old new = (q : K) → Contains new q ↔ (Contains old q ⊎ HasEntry Is m q)

-- another map hasn't this entry
abbrev pub IsUnlike : {K X : Type 0} {R : K → K → Ordering} → FinMap R X → K × X → Type 0
IsUnlike other e = map.get other e.0 ≢ Some e.1

-- another map has another byte there
abbrev pub IsOther : FinMap place_cmp ℕ → (ℕ × ℕ) × ℕ → Type 0
IsOther other e = unwrap_or (map.get other e.0) 0 ≢ e.1

-- another map has each entry
abbrev pub IsWithin : {K X : Type 0} {R : K → K → Ordering} → FinMap R X → FinMap R X → Type 0
IsWithin {K} {X} m other = (q : K) (x : X) → map.get m q ≡ Some x → map.get other q ≡ Some x

-- the entry is of this object
abbrev pub LeadsTo : {K : Type 0} → ℕ → K × Entry → Type 0
LeadsTo f e = e.1.fileid ≡ f

-- The places are those of the names that lead to an object.
abbrev pub ArePlacesOf : Volume → ℕ → List Place → Type 0
ArePlacesOf v f places = (dir : ℕ) (name : List ℕ) → Contains (each key_of places) (dir, name) ↔ HasEntry (LeadsTo f) v.names (dir, name)

-- The objects, the names and the bytes, without unstable writes, that differ between two volumes are these.
pub record AreDifferences (v w : Volume) (d : Differences) : Type 0 where
  pub objects : (f : ℕ) → Contains d.objects.items f ↔ ((map.get v.nodes f ≢ map.get w.nodes f) ⊎ (map.get v.texts f ≢ map.get w.texts f))
  pub names : (dir : ℕ) (name : List ℕ) → Contains (each key_of d.names.items) (dir, name) ↔ (map.get v.names (dir, name) ≢ map.get w.names (dir, name))
  pub bytes : (f at : ℕ) → Contains d.bytes.items (f, at) ↔ (unwrap_or (map.get v.written (f, at)) 0 ≢ unwrap_or (map.get w.written (f, at)) 0)
