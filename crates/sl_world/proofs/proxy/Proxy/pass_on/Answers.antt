use Rattle.std.proofs.Common.{refl, sym, subst}
use Rattle.sl_world.specs.Proxying.{GivesArrival, IsAdmitted}
use Rattle.sl_world.specs.declared.look.Look.{Look}
use Rattle.sl_world.proofs.Arriving.{request_sent}
use Rattle.sl_world.proofs.proxy.Proxy.pass_on.Goals as goal

pub returns : goal.returns
returns c =
    let look : Look = record {
      client = c.args.caller.client;
      packet = c.in_ok-copied.field-0;
      xid = c.args.caller.xid;
      cred = c.args.caller.cred;
      handle = c.args.handle;
      tag = c.args.self.now.next_tag;
      to = c.in-Some.to;
    } in
    record {
      gives = subst (λ bytes. GivesArrival c.args.self.now c.ask.new.self c.args.event c.args.caller.client bytes c.ask.result) c.in_ok-copied.ensures
          (request_sent c.args.self.now c.ask.new.self c.args.event look c.ask.result
          (subst (λ bytes. IsAdmitted c.args.self.now bytes c.args.caller.xid c.args.caller.cred c.args.handle) (sym c.in_ok-copied.ensures) c.requires)
          refl c.in-Some.ensures.server c.ask.ensures.sends c.ask.ensures.held);
    }
