use Rattle.std.proofs.Common.{ap, ◌∙◌}
use Rattle.sl_history.specs.Placing.{name_server}
use Rattle.sl_plain.specs.declared.names.Place.{Place}
use Rattle.sl_wiring.proofs.Standings.{added, adding_at, item_at}
use Rattle.sl_wiring.proofs.standing.add_names.Goals as goal

pub loop-place-preserved : goal.loop-place-preserved
loop-place-preserved c =
    adding_at c.args.servers.now.items c.loop-place.servers.items c.add.new.servers.items (λ (p : Place). name_server c.args.setup p.dir p.name.items) c.args.names.now c.loop-place.place-index
    c.place-item.result c.name_server.result (item_at c.args.names.now c.loop-place.place-index c.place-item.result c.loop-place-test.true c.place-item.is)
    (c.name_server.ensures ∙ ap (name_server c.args.setup c.place-item.result.dir) c.as_slice.ensures.value) c.loop-place.invariant c.in_ok-add.ensures

pub returns : goal.returns
returns c =
    added c.args.servers.now.items c.loop-place.servers.items (λ (p : Place). name_server c.args.setup p.dir p.name.items) c.args.names.now c.loop-place.place-index c.loop-place-test.false c.loop-place.invariant
