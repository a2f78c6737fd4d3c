use Rattle.std.proofs.Common.{ap, arith, option_map, sym, ◌∙◌}
use Rattle.sl_datagram.specs.Datagrams.{asked_of}
use Rattle.sl_past.specs.Words.{remark_of}
use Rattle.sl_world.proofs.Arriving.{asked_so, away_noted}
use Rattle.sl_world.proofs.Editing.{is_getattr}
use Rattle.sl_world.proofs.proxy.Proxy.take_call.Goals as goal

pub returns-in-Some : goal.returns-in-Some
returns-in-Some c = record {
  gives = away_noted c.args.self.now c.args.event c.args.client c.args.bytes.now (asked_of c.args.asked) (remark_of c.in-Some.note) c.noting.result c.requires
      (sym (ap (option_map remark_of) (sym c.in-Some.is) ∙ c.turned_away.ensures)) c.noting.ensures;
}

pub getattr-requires-clause-asked : goal.getattr-requires-clause-asked
getattr-requires-clause-asked c =
    asked_so c.args.bytes.now c.in-Getattr.object c.as_slice.result.now (asked_of c.args.asked) c.requires
    (is_getattr c.args.bytes.now (asked_of c.args.asked) c.in-Getattr.object (λ i. omega (arith, c.type_inv.bytes i)) c.requires c.in-Getattr.is) c.in-Getattr.is
    (c.as_slice.ensures ∙ c.in-Getattr.object-is)
