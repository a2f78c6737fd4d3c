use Rattle.std.proofs.Common.{Some, ap, ◌∙◌}
use Rattle.std.specs.Prelude.{option_map}
use Rattle.sl_datagram.specs.Datagrams.{datagram_of}
use Rattle.sl_datagram.specs.declared.datagram.Datagram.{Datagram}
use Rattle.sl_referee.proofs.docket.Docket.is_reply.Goals as goal

pub returns-in-Asked-clause-decides : goal.returns-in-Asked-clause-decides
returns-in-Asked-clause-decides c =
    let datagram = c.in-Some.is ∙ ap (λ (x : Datagram). Some x) c.in-Asked.is in
    c.is_answer.ensures.decides (ap (option_map datagram_of) datagram)

pub returns-in-Asked-clause-stopped : goal.returns-in-Asked-clause-stopped
returns-in-Asked-clause-stopped c =
    let datagram = c.in-Some.is ∙ ap (λ (x : Datagram). Some x) c.in-Asked.is in
    c.is_answer.ensures.stopped (ap (option_map datagram_of) datagram)
