-- What has a text is short enough to be written.
use Rattle.std.proofs.Common.{ℕ, List}
use Rattle.std.proofs.lemmas.List.Elements.{All-weaker}
use Rattle.sl_types.specs.declared.writes.Write.{Write}
use Rattle.sl_cells.specs.declared.cells.AttrCell.{AttrCell}
use Rattle.sl_cells.specs.declared.cells.NameCell.{NameCell}
use Rattle.sl_cells.specs.declared.keys.CellKey.{CellKey}
use Rattle.sl_cells.specs.declared.keys.CellKey.TheVariants as key
use Rattle.sl_cells.specs.declared.changes.Change.{Change}
use Rattle.sl_cells.specs.declared.changes.Change.TheVariants as change
use Rattle.sl_cells.specs.Lists.{FitsList}
use Rattle.sl_cells.specs.Texts.{FitsAttrCell, ShortAttrCell, FitsNameCell, ShortNameCell, FitsKey, ShortKey, FitsChange, ShortChange, FitsWrite, ShortWrite}

pub list_short : {A : Type 0} (Fits Short : A → Type 0) → ((x : A) → Fits x → Short x) → (xs : List A) → FitsList Fits xs → FitsList Short xs
list_short Fits Short short xs fits = (fits.0, All-weaker Fits Short short xs fits.1)

pub attr_cell_short : (c : AttrCell) → FitsAttrCell c → ShortAttrCell c
attr_cell_short c fits = fits.1.1.1.1.1

pub name_cell_short : (c : NameCell) → FitsNameCell c → ShortNameCell c
name_cell_short c fits = fits.1.0

pub key_short : (k : CellKey) → FitsKey k → ShortKey k
key_short (key.Attr fileid) fits = tt
key_short (key.Name dir name) fits = fits.1

pub change_short : (c : Change) → FitsChange c → ShortChange c
change_short (change.PutAttr cell) fits = attr_cell_short cell fits
change_short (change.TakeAttr fileid) fits = tt
change_short (change.PutName cell) fits = name_cell_short cell fits
change_short (change.TakeName dir name) fits = fits.1
change_short (change.SetFattr attributes) fits = tt

pub write_short : (w : Write) → FitsWrite w → ShortWrite w
write_short w fits = fits.1
