use Rattle.std.proofs.Common.{◌+◌, true, refl}
use Rattle.std.specs.Prelude.{is_some, option_and_then, option_map}
use Rattle.sl_defs.specs.Histories.{Happens}
use Rattle.sl_history.specs.Turns.{events}
use Rattle.sl_history.specs.Arrivals.{asked_in}
use Rattle.sl_datagram.specs.Datagrams.{datagram_of}
use Rattle.sl_ledger.proofs.ArrivalLaws.{arrivals_come, counted, waits_more, waits_same}
use Rattle.sl_ledger.proofs.arrivals.Arrivals.begin_event.Goals as goal

pub returns-in_ok-push-2 : goal.returns-in_ok-push-2
returns-in_ok-push-2 c = λ past moment is.
    let a = c.args.self.now in
    let d = c.in_ok-datagram.datagram in
    arrivals_come past (Happens c.args.event.now) moment d a (record { datagrams = c.push.new.items; is_event = true; waiting = c.push-then-waits.new.items }) is refl
    c.in_ok-datagram.ensures c.in_ok-push.ensures refl
    (waits_more a.waiting.items c.push-then-waits.new.items.items (events past + 1) c.events-newest.result (is_some (option_and_then asked_in (option_map datagram_of d)))
    c.in_ok-push-2.ensures (counted a.datagrams.items c.push.new.items.items d (events past) c.events-newest.result c.in_ok-push.ensures is.count c.events-newest.ensures.counted)
    c.if-waits.ensures)

pub returns-else-waits : goal.returns-else-waits
returns-else-waits c = λ past moment is.
    let a = c.args.self.now in
    let d = c.in_ok-datagram.datagram in
    arrivals_come past (Happens c.args.event.now) moment d a (record { datagrams = c.push.new.items; is_event = true; waiting = a.waiting }) is refl
    c.in_ok-datagram.ensures c.in_ok-push.ensures refl
    (waits_same a.waiting.items (events past + 1) (is_some (option_and_then asked_in (option_map datagram_of d))) c.if-waits.ensures)
