-- The servers of what differs between two volumes.
use Rattle.std.proofs.Common.{◌≡◌, ℕ, List, [], ap, subst, ◌∙◌, inl, inr, ◌⊎◌}
use Rattle.std.specs.Prelude.{map}
use Rattle.std.specs.List.{Contains}
use Rattle.sl_defs.specs.declared.setup.Setup.{Setup}
use Rattle.sl_model.specs.Plan.{Key, NodeKey, NameKey}
use Rattle.sl_model.specs.Volume.{Volume}
use Rattle.sl_plain.specs.Differing.{AreDifferences}
use Rattle.sl_plain.specs.Maps.{key_of}
use Rattle.sl_plain.specs.declared.differing.Differences.{Differences}
use Rattle.sl_plain.specs.declared.names.Place.{Place}
use Rattle.sl_history.specs.Placing.{byte_server, key_server, name_server, object_server}
use Rattle.sl_history.specs.Wired.{Differs}
use Rattle.sl_wiring.specs.Standing.{AddsServers, AreServersOf, HasByte, HasCell}
use Rattle.sl_wiring.proofs.Sets.{no_key}
use Rattle.sl_wiring.proofs.Standings.{contains_map, from_map}

abbrev pub of_object : Setup → ℕ → ℕ
of_object setup f = object_server setup f

abbrev pub of_name : Setup → Place → ℕ
of_name setup p = name_server setup p.dir p.name.items

abbrev pub of_byte : Setup → ℕ × ℕ → ℕ
of_byte setup b = byte_server setup b.0 b.1

object_differs : (setup : Setup) (v w : Volume) (d : Differences) (s : ℕ) → AreDifferences v w d → Contains (map (of_object setup) d.objects.items) s → HasCell setup v w s
object_differs setup v w d s are has =
    let of = from_map (of_object setup) d.objects.items s has in
    record { key = NodeKey of.item; differs = (are.objects of.item).0 of.has; lies = of.is }

name_differs : (setup : Setup) (v w : Volume) (d : Differences) (s : ℕ) → AreDifferences v w d → Contains (map (of_name setup) d.names.items) s → HasCell setup v w s
name_differs setup v w d s are has =
    let of = from_map (of_name setup) d.names.items s has in
    record { key = NameKey of.item.dir of.item.name.items; differs = (are.names of.item.dir of.item.name.items).0 (contains_map key_of d.names.items of.item of.has); lies = of.is }

byte_differs : (setup : Setup) (v w : Volume) (d : Differences) (s : ℕ) → AreDifferences v w d → Contains (map (of_byte setup) d.bytes.items) s → HasByte setup v w s
byte_differs setup v w d s are has =
    let of = from_map (of_byte setup) d.bytes.items s has in
    record { file = of.item.0; offset = of.item.1; differs = (are.bytes of.item.0 of.item.1).0 of.has; lies = of.is }

cell_among : (setup : Setup) (v w : Volume) (d : Differences) (s : ℕ) → AreDifferences v w d → (k : Key) → Differs v w k → key_server setup k ≡ s
    → Contains (map (of_object setup) d.objects.items) s ⊎ Contains (map (of_name setup) d.names.items) s
cell_among setup v w d s are (NodeKey f) differs lies =
    inl (subst (λ (n : ℕ). Contains (map (of_object setup) d.objects.items) n) lies (contains_map (of_object setup) d.objects.items f ((are.objects f).1 differs)))
cell_among setup v w d s are (NameKey dir name) differs lies =
    let of = from_map key_of d.names.items (dir, name) ((are.names dir name).1 differs) in
    inr (subst (λ (n : ℕ). Contains (map (of_name setup) d.names.items) n) (ap (λ (q : ℕ × List ℕ). name_server setup q.0 q.1) of.is ∙ lies) (contains_map (of_name setup) d.names.items of.item of.has))

byte_among : (setup : Setup) (v w : Volume) (d : Differences) (s : ℕ) → AreDifferences v w d → HasByte setup v w s → Contains (map (of_byte setup) d.bytes.items) s
byte_among setup v w d s are b =
    subst (λ (n : ℕ). Contains (map (of_byte setup) d.bytes.items) n) b.lies (contains_map (of_byte setup) d.bytes.items (b.file, b.offset) ((are.bytes b.file b.offset).1 b.differs))

pub servers_are : (setup : Setup) (v w : Volume) (d : Differences) (none objects names bytes : List ℕ) → AreDifferences v w d → none ≡ []
    → AddsServers none objects (of_object setup) d.objects.items → AddsServers objects names (of_name setup) d.names.items → AddsServers names bytes (of_byte setup) d.bytes.items
    → AreServersOf setup v w bytes
servers_are setup v w d none objects names bytes are is first then_ last s = (forth, back)
  where
    of_cells : Contains names s → HasCell setup v w s
    of_cells has = elim ((then_ s).0 has) [
      | inl before ↦ elim ((first s).0 before) [
        | inl no_ ↦ absurd (no_key s (subst (λ (xs : List ℕ). Contains xs s) is no_))
        | inr more ↦ object_differs setup v w d s are more
      ]
      | inr more ↦ name_differs setup v w d s are more
    ]

    forth : Contains bytes s → HasCell setup v w s ⊎ HasByte setup v w s
    forth has = elim ((last s).0 has) [
      | inl before ↦ inl (of_cells before)
      | inr more ↦ inr (byte_differs setup v w d s are more)
    ]

    back : HasCell setup v w s ⊎ HasByte setup v w s → Contains bytes s
    back (inl cell) = elim (cell_among setup v w d s are cell.key cell.differs cell.lies) [
      | inl object ↦ (last s).1 (inl ((then_ s).1 (inl ((first s).1 (inr object)))))
      | inr name ↦ (last s).1 (inl ((then_ s).1 (inr name)))
    ]
    back (inr byte) = (last s).1 (inr (byte_among setup v w d s are byte))
