-- The one text of each cell, key, change and write, and which of them have one.
--
-- All numbers are the highest byte first. An opaque has padding of zeros. An object is known by a number from 1 to
-- 2^46 - 1, its fileid.
use Rattle.std.specs.Prelude.{◌≡◌, ℕ, ◌^◌, ◌<◌, ◌≤◌, List, ◌++◌, Option, IfSome}
use Rattle.sl_defs.specs.Items.{u32_text, u64_text, opaque_text}
use Rattle.sl_defs.specs.Parts.{optional_text}
use Rattle.sl_types.specs.declared.attributes.Fattr.{Fattr}
use Rattle.sl_types.specs.declared.writes.Write.{Write}
use Rattle.sl_types.specs.Numbers.{kind_number}
use Rattle.sl_items.specs.Spelling.{FitsU64, FitsBytes, FitsFattr, fattr_text}
use Rattle.sl_cells.specs.declared.cells.AttrCell.{AttrCell}
use Rattle.sl_cells.specs.declared.cells.NameCell.{NameCell}
use Rattle.sl_cells.specs.declared.keys.CellKey.{CellKey}
use Rattle.sl_cells.specs.declared.keys.CellKey.TheVariants as key
use Rattle.sl_cells.specs.declared.changes.Change.{Change}
use Rattle.sl_cells.specs.declared.changes.Change.TheVariants as change

-- These bytes are the text of a value that has one.
abbrev pub Spelled : {A : Type 0} → (A → List ℕ) → (A → Type 0) → A → List ℕ → Type 0
Spelled text_of Fits x text = (text ≡ text_of x) × Fits x

-- ---- the numbers of objects

-- a fileid
abbrev pub IsId : ℕ → Type 0
IsId n = (1 ≤ n) × (n < 2 ^ 46)

-- a fileid, or 0 for none
abbrev pub IsIdOrNone : ℕ → Type 0
IsIdOrNone n = n < 2 ^ 46

-- attributes of an object
abbrev pub FitsObject : Fattr → Type 0
FitsObject a = FitsFattr a × IsId a.fileid

-- ---- cells

unfoldable pub attr_cell_text : AttrCell → List ℕ
attr_cell_text c = fattr_text c.attributes ++ (u64_text c.parent ++ (u64_text c.entries ++ (u64_text c.made ++ (optional_text u64_text c.verifier ++ opaque_text c.link))))

abbrev pub FitsAttrCell : AttrCell → Type 0
FitsAttrCell c = FitsObject c.attributes × (IsIdOrNone c.parent × (FitsU64 c.entries × (FitsU64 c.made × (IfSome c.verifier FitsU64 × FitsBytes c.link))))

unfoldable pub name_cell_text : NameCell → List ℕ
name_cell_text c = u64_text c.dir ++ (opaque_text c.name ++ (u64_text c.fileid ++ (u32_text (kind_number c.kind) ++ u64_text c.cookie)))

abbrev pub FitsNameCell : NameCell → Type 0
FitsNameCell c = IsId c.dir × (FitsBytes c.name × (IsId c.fileid × (Unit {0} × FitsU64 c.cookie)))

-- ---- keys: a number that tells what follows, and that

abbrev pub key_number : CellKey → ℕ
key_number (key.Attr fileid) = 1
key_number (key.Name dir name) = 2

abbrev pub key_body_text : CellKey → List ℕ
key_body_text (key.Attr fileid) = u64_text fileid
key_body_text (key.Name dir name) = u64_text dir ++ opaque_text name

unfoldable pub key_text : CellKey → List ℕ
key_text k = u32_text (key_number k) ++ key_body_text k

abbrev pub FitsKey : CellKey → Type 0
FitsKey (key.Attr fileid) = IsId fileid
FitsKey (key.Name dir name) = IsId dir × FitsBytes name

-- ---- changes: a number that tells what follows, and that

abbrev pub change_number : Change → ℕ
change_number (change.PutAttr cell) = 1
change_number (change.TakeAttr fileid) = 2
change_number (change.PutName cell) = 3
change_number (change.TakeName dir name) = 4
change_number (change.SetFattr attributes) = 5

abbrev pub change_body_text : Change → List ℕ
change_body_text (change.PutAttr cell) = attr_cell_text cell
change_body_text (change.TakeAttr fileid) = u64_text fileid
change_body_text (change.PutName cell) = name_cell_text cell
change_body_text (change.TakeName dir name) = u64_text dir ++ opaque_text name
change_body_text (change.SetFattr attributes) = fattr_text attributes

unfoldable pub change_text : Change → List ℕ
change_text c = u32_text (change_number c) ++ change_body_text c

abbrev pub FitsChange : Change → Type 0
FitsChange (change.PutAttr cell) = FitsAttrCell cell
FitsChange (change.TakeAttr fileid) = IsId fileid
FitsChange (change.PutName cell) = FitsNameCell cell
FitsChange (change.TakeName dir name) = IsId dir × FitsBytes name
FitsChange (change.SetFattr attributes) = FitsObject attributes

-- ---- writes

unfoldable pub write_text : Write → List ℕ
write_text w = u64_text w.offset ++ opaque_text w.bytes

abbrev pub FitsWrite : Write → Type 0
FitsWrite w = FitsU64 w.offset × FitsBytes w.bytes

-- ---- opaques that are short enough to be written

abbrev pub ShortAttrCell : AttrCell → Type 0
ShortAttrCell c = FitsBytes c.link

abbrev pub ShortNameCell : NameCell → Type 0
ShortNameCell c = FitsBytes c.name

abbrev pub ShortKey : CellKey → Type 0
ShortKey (key.Attr fileid) = Unit {0}
ShortKey (key.Name dir name) = FitsBytes name

abbrev pub ShortChange : Change → Type 0
ShortChange (change.PutAttr cell) = ShortAttrCell cell
ShortChange (change.TakeAttr fileid) = Unit {0}
ShortChange (change.PutName cell) = ShortNameCell cell
ShortChange (change.TakeName dir name) = FitsBytes name
ShortChange (change.SetFattr attributes) = Unit {0}

abbrev pub ShortWrite : Write → Type 0
ShortWrite w = FitsBytes w.bytes
