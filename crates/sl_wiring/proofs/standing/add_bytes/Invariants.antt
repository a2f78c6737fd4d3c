use Rattle.std.proofs.Common.{ℕ, drop}
use Rattle.sl_history.specs.Placing.{byte_server}
use Rattle.sl_wiring.proofs.Standings.{Adding}
use Rattle.sl_wiring.proofs.standing.add_bytes.Given as goal

abbrev pub invariant-loop-place : goal.invariant-loop-place
invariant-loop-place l = Adding l.fn.servers.items l.servers.items (λ (b : ℕ × ℕ). byte_server l.setup b.0 b.1) (drop l.place-index l.bytes) l.bytes
