use Rattle.std.proofs.Common.{sym, ◌∙◌}
use Rattle.sl_world.proofs.Arriving.{refusal_noted}
use Rattle.sl_world.proofs.proxy.Proxy.getattr.Goals as goal

pub returns-in-Err : goal.returns-in-Err
returns-in-Err c = record {
  gives = refusal_noted c.args.self.now c.refuse.new.self c.args.event c.args.caller.client c.args.caller.xid c.args.caller.cred c.args.bytes.now c.args.object.now
      c.in-Err.status c.refuse.result c.requires.taken c.requires.asked (sym c.target.ensures.target ∙ c.in-Err.is) c.refuse.ensures.notes c.refuse.ensures.held;
}
