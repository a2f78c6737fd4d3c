use Rattle.std.proofs.Common.{List, sym, ap, ◌∙◌}
use Rattle.std.specs.Prelude.{unwrap_or}
use Rattle.std.specs.List.{slice_get}
use Rattle.sl_model.specs.Volume.{Volume}
use Rattle.sl_datagram.specs.Datagrams.{asked_of}
use Rattle.sl_referee.proofs.Replied.{changed_reply, look_stops, looked_reply}
use Rattle.sl_referee.proofs.docket.Docket.is_answer.Goals as goal

pub returns-then-is_changing-clause-decides : goal.returns-then-is_changing-clause-decides
returns-then-is_changing-clause-decides c = λ asks.
    let both = rw c.as_ref.ensures.value at c.is_of_effect.ensures in
    changed_reply c.args.self.now c.args.now c.args.arrival c.args.event c.args.bytes.now c.args.case.now (asked_of c.args.asked.now) c.is_of_effect.result asks
    (sym c.is_changing.ensures ∙ c.if-is_changing.true) both

pub returns-clause-decides : goal.returns-clause-decides
returns-clause-decides c = λ asks.
    let d = c.args.self.now in
    let there = c.volume_at-end.ensures ∙ ap (λ (vs : List Volume). unwrap_or (slice_get vs c.args.event) d.volume) c.as_slice.ensures.value in
    looked_reply d c.args.now c.args.arrival c.args.event c.newest-newest.result c.args.bytes.now c.args.case.now (asked_of c.args.asked.now)
    c.volume_at-end.result.now c.is_look.result asks (sym c.is_changing.ensures ∙ c.if-is_changing.false) c.newest-newest.ensures there c.is_look.ensures.decides

pub returns-clause-stopped : goal.returns-clause-stopped
returns-clause-stopped c = λ asks.
    let d = c.args.self.now in
    let there = c.volume_at-end.ensures ∙ ap (λ (vs : List Volume). unwrap_or (slice_get vs c.args.event) d.volume) c.as_slice.ensures.value in
    look_stops d c.args.now c.args.arrival c.args.event c.args.bytes.now c.args.case.now (asked_of c.args.asked.now) c.volume_at-end.result.now c.is_look.result
    asks there c.is_look.ensures.stopped
