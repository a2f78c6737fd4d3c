use Rattle.std.proofs.Common.{drop}
use Rattle.sl_history.specs.Placing.{name_server}
use Rattle.sl_plain.specs.declared.names.Place.{Place}
use Rattle.sl_wiring.proofs.Standings.{Adding}
use Rattle.sl_wiring.proofs.standing.add_names.Given as goal

abbrev pub invariant-loop-place : goal.invariant-loop-place
invariant-loop-place l = Adding l.fn.servers.items l.servers.items (λ (p : Place). name_server l.setup p.dir p.name.items) (drop l.place-index l.names) l.names
