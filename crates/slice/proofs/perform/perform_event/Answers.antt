use Rattle.std.proofs.Common.{subst}
use Rattle.slice.specs.Replays.{WroteTurn}
use Rattle.slice.proofs.Events.{event_done, fault_stops}
use Rattle.slice.proofs.perform.perform_event.Goals as goal

pub returns-in-Ok-clause-done : goal.returns-in-Ok-clause-done
returns-in-Ok-clause-done g c = λ past s.
    event_done c.args.world.now c.event.new.self c.args.event.now c.args.text.now c.in-Ok.notes past c.requires c.in-Ok.ensures.gives.0 c.in-Ok.ensures.follows s
    c.write_turn.result _ _ (subst (λ rs. WroteTurn c.write_turn.result c.args.text.now rs (g.K.Sink.holds c.args.sink.now) (g.K.Sink.holds c.write_turn.new.sink)) c.as_slice.ensures c.write_turn.ensures.wrote)

pub returns-in-Err-clause-done : goal.returns-in-Err-clause-done
returns-in-Err-clause-done g c = λ past s. rw c.stop_of.ensures (fault_stops c.in-Err.fault c.args.world.now c.event.new.self c.args.event.now past _ s c.in-Err.ensures.gives)
