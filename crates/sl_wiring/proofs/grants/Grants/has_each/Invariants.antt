use Rattle.std.specs.List.{AllWithin, Contains}
use Rattle.sl_wiring.proofs.grants.Grants.has_each.Given as goal

-- each server before granted it
abbrev pub invariant-loop-server : goal.invariant-loop-server
invariant-loop-server l = AllWithin (λ server. Contains l.self.items.keys (record { op = l.op; server = server })) l.servers 0 l.server-index
