use Rattle.std.proofs.Common.{ℕ, get_or}
use Rattle.sl_history.specs.Placing.{byte_server}
use Rattle.sl_wiring.proofs.Standings.{added, adding_at, any_at}
use Rattle.sl_wiring.proofs.standing.add_bytes.Goals as goal

pub loop-place-preserved : goal.loop-place-preserved
loop-place-preserved c =
    adding_at c.args.servers.now.items c.loop-place.servers.items c.add.new.servers.items (λ (b : ℕ × ℕ). byte_server c.args.setup b.0 b.1) c.args.bytes.now c.loop-place.place-index
    (get_or c.args.bytes.now c.loop-place.place-index (0, 0)) c.byte_server.result (any_at c.args.bytes.now c.loop-place.place-index (0, 0) c.loop-place-test.true) c.byte_server.ensures
    c.loop-place.invariant c.in_ok-add.ensures

pub returns : goal.returns
returns c =
    added c.args.servers.now.items c.loop-place.servers.items (λ (b : ℕ × ℕ). byte_server c.args.setup b.0 b.1) c.args.bytes.now c.loop-place.place-index c.loop-place-test.false c.loop-place.invariant
