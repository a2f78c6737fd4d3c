-- What the disks stand for after the operations, by computing.
use Rattle.std.proofs.Common.{◌≡◌, Some, [], refl, ap, ◌∙◌}
use Rattle.std.specs.FinMap.{get}
use Rattle.sl_cells.specs.declared.keys.CellKey.TheVariants as key
use Rattle.sl_frames.specs.declared.found.FoundCell.{FoundCell}
use Rattle.sl_frames.specs.declared.found.FoundCell.TheVariants as found
use Rattle.sl_model.specs.Looking.{attributes}
use Rattle.sl_machine.specs.Records.{Cells, cells_of, cell_at, bytes_of, locked_in, found_object, with_attributes}
use Rattle.sl_machine.specs.Parts.{object_cell}
use Rattle.sl_witness.proofs.Maps.{got_here}
use Rattle.sl_operations.specs.Histories.{new_node, written_node}
use Rattle.sl_operations.specs.Runs.{created_records, written_disks, refused_disks, TheDisksStand}

has_file : get (cells_of created_records).objects 2 ≡ Some (object_cell new_node [])
unfolding cells_of
has_file = got_here _ 2 _

-- the file's cell, once the attributes of a cell were set
abbrev set_over : Cells → FoundCell
set_over c = found_object (get (with_attributes (attributes written_node) (get c.objects 2) c).objects 2)

cell_set : (c : Cells) → get c.objects 2 ≡ Some (object_cell new_node []) → set_over c ≡ found.Attr (object_cell written_node [])
cell_set c is =
    ap (λ o. found_object (get (with_attributes (attributes written_node) o c).objects 2)) is
    ∙ ap found_object (got_here c.objects 2 (object_cell written_node []))

cell_written : cell_at (cells_of written_disks.directory) (key.Attr 2) ≡ found.Attr (object_cell written_node [])
unfolding cells_of locked_in
cell_written = cell_set (cells_of created_records) has_file

cell_kept : cell_at (cells_of refused_disks.directory) (key.Attr 2) ≡ found.Attr (object_cell new_node [])
unfolding cells_of locked_in
cell_kept = ap found_object has_file

pub the_disks_stand : TheDisksStand
unfolding bytes_of locked_in
the_disks_stand = record {
  written = record { cell = cell_written; stable = refl };
  flushed = record { cell = cell_written; stable = refl };
  refused = record { cell = cell_kept; stable = refl };
}
