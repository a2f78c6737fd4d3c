use Rattle.std.proofs.Common.{◌≡◌}
use Rattle.std.specs.FinMap as map
use Rattle.sl_world.specs.Proxying.{low_in}
use Rattle.sl_world.proofs.looks.Looks.low.Given as goal

-- with the calls that are left it is the least of all
abbrev pub invariant-loop-look : goal.invariant-loop-look
invariant-loop-look l = low_in l.look-iterator l.low ≡ low_in (map.entries l.self) l.fn.next
