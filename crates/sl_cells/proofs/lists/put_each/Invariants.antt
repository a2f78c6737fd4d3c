use Rattle.std.proofs.Common.{◌≡◌, ◌++◌, take}
use Rattle.sl_cells.specs.Lists.{texts}
use Rattle.sl_cells.proofs.lists.put_each.Given as goal

abbrev pub invariant-loop-item : goal.invariant-loop-item
invariant-loop-item g l = l.out.items ≡ l.fn.out.items ++ texts g.T.Item.text (take l.item-index l.items)
