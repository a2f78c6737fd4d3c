use Rattle.sl_cells.proofs.Elements.{SoFar}
use Rattle.sl_cells.proofs.lists.take_times.Given as goal

abbrev pub invariant-loop-i : goal.invariant-loop-i
invariant-loop-i g l = SoFar g.T.Item.at l.count l._i l.fn.cursor.rest l.items.items l.cursor.rest
