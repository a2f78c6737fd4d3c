use Rattle.std.proofs.Common.{ap, ◌∙◌}
use Rattle.sl_datagram.specs.Datagrams.{datagram_of}
use Rattle.sl_world.proofs.Arriving.{answer_noted, junk_noted}
use Rattle.sl_world.proofs.proxy.Proxy.arrive.Goals as goal

pub returns-in-Ok-Junk : goal.returns-in-Ok-Junk
returns-in-Ok-Junk c = record {
  gives = junk_noted c.args.self.now c.args.event c.args.client c.args.bytes.now c.noting.result (c.in-Ok-Junk.ensures ∙ ap datagram_of c.in-Ok-Junk.field-0-is) c.noting.ensures;
}

pub returns-in-Ok-Answered : goal.returns-in-Ok-Answered
returns-in-Ok-Answered c = record {
  gives = answer_noted c.args.self.now c.args.event c.args.client c.args.bytes.now c.in-Ok-Answered.bytes c.noting-in-Ok-Answered.result
      (c.in-Ok-Answered.ensures ∙ ap datagram_of c.in-Ok-Answered.field-0-is) c.noting-in-Ok-Answered.ensures;
}
