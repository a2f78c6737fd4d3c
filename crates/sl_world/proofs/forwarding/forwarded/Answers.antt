use Rattle.std.proofs.Common.{refl, ◌∙◌}
use Rattle.sl_world.specs.Proxying.{asked_of}
use Rattle.sl_world.proofs.Editing.{forwards}
use Rattle.sl_world.proofs.forwarding.forwarded.Goals as goal

pub returns : goal.returns
returns c =
    forwards c.handles_have_slots.ensures c.args.look.now.packet c.in-Ok.packet.items c.deref_mut.result.now c.bytes.result c.set_handle.new.packet c.deref_mut-2.result.now
    c.set_xid.new.packet c.new.result c.in-Ok.packet.len (asked_of c.args.look.now) c.args.look.now.handle c.among_servers.result c.args.look.now.to c.args.look.now.tag
    c.requires.bytes c.requires.asked refl c.requires.spelled c.requires.directory (c.in-Ok.ensures.items_if_clones_equal (λ x y e. e) ∙ c.as_slice.ensures) c.deref_mut.ensures.value
    c.in-Ok.packet.ok.0 c.bytes.ensures c.among_servers.ensures c.set_handle.ensures.edited c.set_handle.auto.packet c.deref_mut-2.ensures.value
    c.set_xid.ensures.edited c.set_xid.auto.packet c.new.ensures
