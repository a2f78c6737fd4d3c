use Rattle.std.proofs.Common.{length}
use Rattle.sl_world.proofs.Sending.{IsUnderWay}
use Rattle.sl_world.proofs.world.World.send_all.Given as goal

abbrev pub invariant-loop-frame : goal.invariant-loop-frame
invariant-loop-frame l = IsUnderWay l.fn.self l.self l.fn.frames l.rest.items l.notes

abbrev pub decreases-loop-frame : goal.decreases-loop-frame
decreases-loop-frame l = length l.rest.items
