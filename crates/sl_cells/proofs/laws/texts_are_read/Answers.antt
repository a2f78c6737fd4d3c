use Rattle.sl_cells.proofs.OneSpelling.{counted}
use Rattle.sl_cells.proofs.OneText.{one_text}
use Rattle.sl_cells.proofs.CellReaders.{attr_cell_reads, name_cell_reads, key_reads, change_reads, write_reads}
use Rattle.sl_cells.proofs.laws.texts_are_read.Goals as goal

pub returns : goal.returns
returns c = record {
  attributes = one_text attr_cell_reads;
  names = one_text (counted name_cell_reads);
  keys = one_text (counted key_reads);
  changes = one_text (counted change_reads);
  writes = one_text (counted write_reads);
}
