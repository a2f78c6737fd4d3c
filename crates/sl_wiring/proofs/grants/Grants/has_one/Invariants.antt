use Rattle.std.specs.List.{All, Contains}
use Rattle.sl_wiring.specs.declared.grants.Grant.{Grant}
use Rattle.sl_wiring.proofs.grants.Grants.has_one.Given as goal

-- a grant of what all servers granted is still to come
abbrev pub invariant-loop-grant : goal.invariant-loop-grant
invariant-loop-grant l = (x : Grant) → Contains l.self.items.keys x → All (λ server. Contains l.self.items.keys (record { op = x.op; server = server })) l.servers → Contains l.grant-iterator x
