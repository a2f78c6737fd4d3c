use Rattle.sl_rpc.proofs.Groups.{SoFar}
use Rattle.sl_rpc.proofs.credential.take_gids.Given as goal

abbrev pub invariant-loop-i : goal.invariant-loop-i
invariant-loop-i l = SoFar l.count l.i l.fn.cursor.rest l.gids l.cursor.rest
