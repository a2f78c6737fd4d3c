-- Empty disks hold a new volume.
use Rattle.std.proofs.Common.{◌≡◌, ◌≢◌, ◌==◌, ◌<◌, ◌&&◌, ℕ, Bool, true, false, List, [], Option, Some, None, Contains, T, is_some, refl, sym, ap, subst, ◌∙◌, arith, cond, inl, inr, if◌then◌else◌, option_map, unwrap_or, lit<}
use Rattle.std.proofs.lemmas.Bool.{cases_eq, ne_eqb}
use Rattle.std.specs.Ordering.{nat_cmp, eq_by_cmp}
use Rattle.std.specs.Cmp.{nat_cmp_total}
use Rattle.std.specs.FinMap.{FinMap, empty, get, insert, get-empty, get-insert}
use Rattle.sl_defs.specs.declared.setup.Setup.{Setup}
use Rattle.sl_model.specs.Volume.{Volume, name_cmp, place_cmp}
use Rattle.sl_model.specs.Perform.{fresh, new_root}
use Rattle.sl_model.specs.Tree.{Tree}
use Rattle.sl_records.specs.declared.started.Started.{Started}
use Rattle.sl_laws.specs.Laws.{FreshIsTree}
use Rattle.sl_route.specs.declared.class.Class.TheVariants as class
use Rattle.sl_policy.specs.Sites.{site_of}
use Rattle.sl_cells.specs.declared.keys.CellKey.{CellKey}
use Rattle.sl_cells.specs.declared.keys.CellKey.TheVariants as key
use Rattle.sl_cells.specs.declared.changes.Change.TheVariants as change
use Rattle.sl_frames.specs.declared.found.FoundCell.TheVariants as found
use Rattle.sl_history.specs.Placing.{carrier, byte_server}
use Rattle.sl_history.specs.Wired.{cell_of, place_of, found_attr, found_name as found_name_cell, attr_cell, name_cell}
use Rattle.sl_machine.specs.Records.{no_cells, cells_of, bytes_of, cell_at, found_object, found_name, changed, root_cell, Held, locked_in, started_of, next_counter, counter_of}
use Rattle.sl_machine.specs.Disks.{Sound, Scattered, Lies, cells_held, bytes_held, cell_due, byte_in, stable_byte}
use Rattle.sl_witness.specs.Disks.{no_records, EmptyDisksAreSound}
use Rattle.sl_witness.proofs.Maps.{got_here, same_key}

no_unit : ◌≡◌ {A = Option (Unit {0})} None (Some tt) → ⊥
no_unit e = subst (λ o. T (is_some o) → ⊥) e (λ h. h) tt

apart_keys : (q k : ℕ) → q ≢ k → eq_by_cmp nat_cmp q k ≡ false
apart_keys q k apart = by (eq_by_cmp nat_cmp q k) refl
  where
    by : (b : Bool) → eq_by_cmp nat_cmp q k ≡ b → b ≡ false
    by true is = absurd (apart (same_key q k is))
    by false is = refl

-- what another key has is there still
beside : {X : Type 0} (m : FinMap nat_cmp X) (k : ℕ) (x : X) (q : ℕ) → q ≢ k → get (insert m k x) q ≡ get m q
beside m k x q apart = get-insert nat_cmp_total m k x q ∙ ap (λ b. cond b (Some x) (get m q)) (apart_keys q k apart)

nothing_in : {A : Type 0} (x : A) → Contains [] x → ⊥
nothing_in x there = omega (arith, there.1)

-- a test between two numbers doesn't care for their order
other_way : (a b : ℕ) → (a == b) ≡ (b == a)
other_way a b = elim (cases_eq a b) [
  | inl e ↦ subst (λ x. (a == x) ≡ (x == a)) e refl
  | inr ne ↦ ne_eqb a b ne ∙ sym (ne_eqb b a (λ e. ne (sym e)))
]

either_absent : (b : Bool) → (if b then found.Absent else found.Absent) ≡ found.Absent
either_absent true = refl
either_absent false = refl

module _ (s : Setup) where
  abbrev v : Volume
  v = fresh s.volume

  abbrev first : ℕ
  first = carrier s class.Dir 0

  -- the server of the root's site has the root, and no other has anything
  held : (i : ℕ) → cells_held s no_records i ≡ (if i == first && true then changed (change.PutAttr (root_cell s.volume)) no_cells else no_cells)
  unfolding cells_held cells_of locked_in
  held i = refl

  no_object : (f : ℕ) → cell_at no_cells (key.Attr f) ≡ found.Absent
  no_object f = ap found_object (get-empty nat_cmp f)

  no_name : (d : ℕ) (name : List ℕ) → cell_at no_cells (key.Name d name) ≡ found.Absent
  no_name d name = ap found_name (get-empty name_cmp (d, name))

  names_absent : (b : Bool) (d : ℕ) (name : List ℕ)
      → cell_at (if b && true then changed (change.PutAttr (root_cell s.volume)) no_cells else no_cells) (key.Name d name) ≡ found.Absent
  names_absent true d name = no_name d name
  names_absent false d name = no_name d name

  no_name_due : (d : ℕ) (name : List ℕ) → cell_of v (key.Name d name) ≡ found.Absent
  unfolding fresh
  no_name_due d name = ap (λ o. found_name_cell (option_map (name_cell d name) o)) (get-empty name_cmp (d, name))

  -- the root
  root_there : (b : Bool) → cell_at (if b && true then changed (change.PutAttr (root_cell s.volume)) no_cells else no_cells) (key.Attr 1) ≡ (if b then found.Attr (root_cell s.volume) else found.Absent)
  root_there true = ap found_object (got_here empty 1 (root_cell s.volume))
  root_there false = no_object 1

  root_due : cell_of v (key.Attr 1) ≡ found.Attr (root_cell s.volume)
  unfolding fresh
  root_due = ap (λ o. found_attr (option_map (attr_cell v 1) o)) (got_here empty 1 (new_root s.volume))
      ∙ ap (λ o. found.Attr (record (root_cell s.volume) { link = unwrap_or o [] })) (get-empty nat_cmp 1)

  -- another object
  others_absent : (b : Bool) (f : ℕ) → f ≢ 1 → cell_at (if b && true then changed (change.PutAttr (root_cell s.volume)) no_cells else no_cells) (key.Attr f) ≡ found.Absent
  others_absent true f apart = ap found_object (beside empty 1 (root_cell s.volume) f apart ∙ get-empty nat_cmp f)
  others_absent false f apart = no_object f

  other_due : (f : ℕ) → f ≢ 1 → cell_of v (key.Attr f) ≡ found.Absent
  unfolding fresh
  other_due f apart = ap (λ o. found_attr (option_map (attr_cell v f) o)) (beside empty 1 (new_root s.volume) f apart ∙ get-empty nat_cmp f)

  object_lies : (i f : ℕ) → cell_at (cells_held s no_records i) (key.Attr f) ≡ cell_due s v i (key.Attr f)
  object_lies i f = ap (λ c. cell_at c (key.Attr f)) (held i) ∙ elim (cases_eq f 1) [
    | inl e ↦ subst (λ g. cell_at (if i == first && true then changed (change.PutAttr (root_cell s.volume)) no_cells else no_cells) (key.Attr g) ≡ cell_due s v i (key.Attr g)) (sym e)
        (root_there (i == first) ∙ ap (λ b. if b then found.Attr (root_cell s.volume) else found.Absent) (other_way i first)
        ∙ ap (λ c. if first == i then c else found.Absent) (sym root_due))
    | inr apart ↦ others_absent (i == first) f apart ∙ sym (ap (λ c. if place_of s (key.Attr f) == i then c else found.Absent) (other_due f apart) ∙ either_absent (place_of s (key.Attr f) == i))
  ]

  name_lies : (i d : ℕ) (name : List ℕ) → cell_at (cells_held s no_records i) (key.Name d name) ≡ cell_due s v i (key.Name d name)
  name_lies i d name = ap (λ c. cell_at c (key.Name d name)) (held i) ∙ names_absent (i == first) d name
      ∙ sym (ap (λ c. if place_of s (key.Name d name) == i then c else found.Absent) (no_name_due d name) ∙ either_absent (place_of s (key.Name d name) == i))

  cells_lie : (i : ℕ) (k : CellKey) → cell_at (cells_held s no_records i) k ≡ cell_due s v i k
  cells_lie i (key.Attr f) = object_lies i f
  cells_lie i (key.Name d name) = name_lies i d name

  -- ---- bytes

  no_byte : (f at : ℕ) → stable_byte v f at ≡ 0
  unfolding fresh
  no_byte f at = ap (λ o. unwrap_or o 0) (get-empty place_cmp (f, at))

  no_byte_held : (i f at : ℕ) → byte_in (bytes_held no_records i) f at ≡ 0
  unfolding bytes_held bytes_of locked_in
  no_byte_held i f at = ap (λ o. unwrap_or o 0) (get-empty place_cmp (f, at))

  either_zero : (b : Bool) (n : ℕ) → n ≡ 0 → (if b then n else 0) ≡ 0
  either_zero true n is = is
  either_zero false n is = refl

  lie : Lies s v no_records
  lie = record {
    cells = λ i k server. cells_lie i k;
    bytes = λ i f at server. no_byte_held i f at ∙ sym (either_zero (byte_server s f at == i) (stable_byte v f at) (no_byte f at));
    ends = record { past_end = λ f at n is past. no_byte f at; no_file = λ f at none. no_byte f at };
  }

  -- ---- records

  not_locked : (i : ℕ) (h : Held) → locked_in (no_records i) ≡ Some h → ⊥
  unfolding locked_in
  not_locked i h is = cc

  none_started : (x : Started) → Contains (started_of (no_records 1)) x → ⊥
  unfolding started_of
  none_started x there = nothing_in x there

  used_is_root : (f : ℕ) → get v.used f ≡ Some tt → f ≡ 1
  unfolding fresh
  used_is_root f is = elim (cases_eq f 1) [
    | inl e ↦ e
    | inr apart ↦ absurd (no_unit (sym (get-empty nat_cmp f) ∙ sym (beside empty 1 tt f apart) ∙ is))
  ]

  root_counted : counter_of 1 < next_counter (site_of 1) (no_records (carrier s class.Dir (site_of 1)))
  unfolding next_counter
  root_counted = lit< tt

  sound : Tree v → Sound s v no_records
  sound tree = record {
    tree = tree;
    lies = lie;
    locked = λ i h is. absurd (not_locked i h is);
    only = λ i op r there is. absurd (nothing_in r there);
    above = λ i h r is there. absurd (nothing_in r there);
    decided = λ x p there yes part. absurd (none_started x there);
    numbers = λ i r there. absurd (nothing_in r there);
    fences = λ i r there. absurd (nothing_in r there);
    ids = λ f is. subst (λ g. counter_of g < next_counter (site_of g) (no_records (carrier s class.Dir (site_of g)))) (sym (used_is_root f is)) root_counted;
  }

  scattered : Scattered s v no_records
  unfolding started_of
  scattered = record { idle = refl; lies = lie }

pub empty_disks_are_sound : FreshIsTree → EmptyDisksAreSound
empty_disks_are_sound tree s = (sound s (tree s.volume), scattered s)
