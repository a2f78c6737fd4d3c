use Rattle.std.proofs.Common.{drop}
use Rattle.sl_wiring.proofs.CellLaws.{CellsLeft}
use Rattle.sl_wiring.proofs.cells.are_cells.Given as goal

abbrev pub invariant-loop-key : goal.invariant-loop-key
invariant-loop-key l = CellsLeft l.setup l.volume l.server l.keys l.cells (drop l.key-index l.keys) l.rest
