use Rattle.std.proofs.Common.{drop}
use Rattle.sl_history.specs.Placing.{object_server}
use Rattle.sl_wiring.proofs.Standings.{Adding}
use Rattle.sl_wiring.proofs.standing.add_objects.Given as goal

abbrev pub invariant-loop-fileid : goal.invariant-loop-fileid
invariant-loop-fileid l = Adding l.fn.servers.items l.servers.items (λ f. object_server l.setup f) (drop l.fileid-index l.objects) l.objects
