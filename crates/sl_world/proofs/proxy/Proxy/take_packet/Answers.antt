use Rattle.std.proofs.Common.{sym, ◌∙◌}
use Rattle.sl_world.proofs.Arriving.{reply_noted}
use Rattle.sl_world.proofs.Using.{unused_fence, unused_reply, unused_tag, used_nothing}
use Rattle.sl_world.proofs.proxy.Proxy.take_packet.Goals as goal

pub returns-then-frame-self : goal.returns-then-frame-self
returns-then-frame-self c = record {
  gives = used_nothing c.args.self.now c.args.frame.now c.args.sent_in c.silent.result
      (unused_fence c.args.self.now c.args.frame.now c.args.packet.now c.requires c.if-frame-self.true) c.silent.ensures.frames c.silent.ensures.notes;
}

pub returns-in_default : goal.returns-in_default
returns-in_default c = record {
  gives = used_nothing c.args.self.now c.args.frame.now c.args.sent_in c.silent-in_default.result
      (unused_tag c.args.self.now c.args.frame.now c.args.packet.now c.requires c.in_default.ensures) c.silent-in_default.ensures.frames c.silent-in_default.ensures.notes;
}

pub returns-in_default-2 : goal.returns-in_default-2
returns-in_default-2 c = record {
  gives = used_nothing c.args.self.now c.args.frame.now c.args.sent_in c.silent-in_default-2.result
      (unused_reply c.args.self.now c.args.frame.now c.args.packet.now c.requires (sym c.in_ok-reply.ensures.exact ∙ c.in_default-2.is))
      c.silent-in_default-2.ensures.frames c.silent-in_default-2.ensures.notes;
}

pub returns : goal.returns
returns c =
    let out = c.in-Some.ensures in
    record {
      gives = reply_noted c.args.self.now c.answer.new.self c.args.frame.now c.args.sent_in c.in-Some.arrival c.in-Some-2.reply c.args.packet.now c.answer.result out
          c.requires c.if-frame-self.false (sym c.is_data_server.ensures ∙ c.if-is_data_server.false) (sym c.in_ok-reply.ensures.exact ∙ c.in-Some-2.is)
          (c.is_passing.ensures.0 c.if-not-is_passing.false) (c.answer.ensures.notes out.look out.waits) c.answer.ensures.held;
    }
