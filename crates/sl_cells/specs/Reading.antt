-- Reading cells, keys, changes and writes from the front of some bytes.
use Rattle.std.specs.Prelude.{ℕ, zero, suc, ◌+◌, ◌^◌, List, [], ◌∷◌, length, take, drop, Option, Some, None, Bool, ◌==◌, ◌&&◌, nat_lt, if◌then◌else◌}
use Rattle.std.specs.List.{list_all}
use Rattle.sl_defs.specs.Items.{◌>>=◌, u32_at, u64_at, padding}
use Rattle.sl_defs.specs.Parts.{void_at, mapped, ◌⊗◌, union_at, optional_at}
use Rattle.sl_types.specs.declared.attributes.Fattr.{Fattr}
use Rattle.sl_types.specs.declared.writes.Write.{Write}
use Rattle.sl_items.specs.Reading.{bytes_at, fattr_at, kind_at}
use Rattle.sl_cells.specs.declared.cells.AttrCell.{AttrCell}
use Rattle.sl_cells.specs.declared.cells.NameCell.{NameCell}
use Rattle.sl_cells.specs.declared.keys.CellKey.{CellKey}
use Rattle.sl_cells.specs.declared.keys.CellKey.TheVariants as key
use Rattle.sl_cells.specs.declared.changes.Change.{Change}
use Rattle.sl_cells.specs.declared.changes.Change.TheVariants as change
use Rattle.sl_cells.specs.Lists.{Reader}

-- ---- parts

-- what is read, where it passes a test
abbrev pub guarded : {A : Type 0} → (A → Bool) → Reader A → Reader A
guarded passes read bytes = do
  x ← read bytes
  if passes x.0 then Some x else None

-- what stands behind an opaque's body, up to a multiple of four
abbrev pub padding_in : List ℕ → List ℕ → List ℕ
padding_in bytes body = take (padding (length body)) (drop (4 + length body) bytes)

-- an opaque of any length, whose padding is zero
unfoldable pub padded_at : Reader (List ℕ)
padded_at bytes = do
  x ← bytes_at bytes
  if list_all (λ b. b == 0) (padding_in bytes x.0) then Some x else None

-- the number of an object: its site and a counter from 1 on
abbrev pub is_id : ℕ → Bool
is_id n = nat_lt 0 n && nat_lt n (2 ^ 46)

-- the same, or 0
abbrev pub is_id_or_none : ℕ → Bool
is_id_or_none n = nat_lt n (2 ^ 46)

unfoldable pub id_at : Reader ℕ
id_at = guarded is_id u64_at

unfoldable pub id_or_none_at : Reader ℕ
id_or_none_at = guarded is_id_or_none u64_at

-- the attributes of an object of this server
unfoldable pub object_at : Reader Fattr
object_at = guarded (λ a. is_id a.fileid) fattr_at

-- ---- cells

unfoldable pub attr_cell_at : Reader AttrCell
attr_cell_at =
    mapped
    (λ x. record { attributes = x.0; parent = x.1.0; entries = x.1.1.0; made = x.1.1.1.0; verifier = x.1.1.1.1.0; link = x.1.1.1.1.1 })
    (object_at ⊗ id_or_none_at ⊗ u64_at ⊗ u64_at ⊗ optional_at u64_at ⊗ padded_at)

unfoldable pub name_cell_at : Reader NameCell
name_cell_at =
    mapped
    (λ x. record { dir = x.0; name = x.1.0; fileid = x.1.1.0; kind = x.1.1.1.0; cookie = x.1.1.1.1 })
    (id_at ⊗ padded_at ⊗ id_at ⊗ kind_at ⊗ u64_at)

-- ---- keys, changes and writes

abbrev pub name_key : ℕ × List ℕ → CellKey
name_key x = key.Name x.0 x.1

unfoldable pub key_body_at : ℕ → Reader CellKey
key_body_at zero = λ _. None
key_body_at (suc zero) = mapped key.Attr id_at
key_body_at (suc (suc zero)) = mapped name_key (id_at ⊗ padded_at)
key_body_at (suc (suc (suc n))) = λ _. None

unfoldable pub key_at : Reader CellKey
key_at = union_at key_body_at

abbrev pub take_name_change : ℕ × List ℕ → Change
take_name_change x = change.TakeName x.0 x.1

unfoldable pub change_body_at : ℕ → Reader Change
change_body_at zero = λ _. None
change_body_at (suc zero) = mapped change.PutAttr attr_cell_at
change_body_at (suc (suc zero)) = mapped change.TakeAttr id_at
change_body_at (suc (suc (suc zero))) = mapped change.PutName name_cell_at
change_body_at (suc (suc (suc (suc zero)))) = mapped take_name_change (id_at ⊗ padded_at)
change_body_at (suc (suc (suc (suc (suc zero))))) = mapped change.SetFattr object_at
change_body_at (suc (suc (suc (suc (suc (suc n)))))) = λ _. None

unfoldable pub change_at : Reader Change
change_at = union_at change_body_at

unfoldable pub write_at : Reader Write
write_at = mapped (λ x. record { offset = x.0; bytes = x.1 }) (u64_at ⊗ padded_at)

-- ---- the whole bytes

-- what the whole bytes spell: nothing is left behind it
abbrev pub whole : {A : Type 0} → Reader A → List ℕ → Option A
whole read bytes = do
  x ← read bytes
  if length x.1 == 0 then Some x.0 else None
