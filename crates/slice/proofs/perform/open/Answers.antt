use Rattle.std.proofs.Common.{[], ap, subst}
use Rattle.std.specs.Prelude.{MatchResult}
use Rattle.sl_defs.specs.declared.event.Line.TheVariants as line
use Rattle.slice.specs.Replays.{Passes, Stops, WroteTurn}
use Rattle.slice.proofs.Events.{opening_done, opening_fails}
use Rattle.slice.proofs.perform.open.Goals as goal

pub returns-in-Ok-write_turn-clause-done : goal.returns-in-Ok-write_turn-clause-done
returns-in-Ok-write_turn-clause-done g c =
    let old = g.K.Sink.holds c.args.sink.now in
    let new = g.K.Sink.holds c.write_turn.new.sink in
    let wrote = subst (λ rs. WroteTurn c.write_turn.result c.args.text.now rs old new) c.as_slice.ensures c.write_turn.ensures.wrote in
    let done = opening_done c.args.setup.now c.in-Ok.world c.args.text.now c.in-Ok.notes c.requires c.in-Ok.ensures.follows (ap (λ w. w.proxy.setup) c.in-Ok.ensures.gives.1) c.in-Ok.ensures.gives.0.one c.write_turn.result old new wrote in
    subst (λ r. MatchResult r (λ u. Passes (line.Volume c.args.setup.now) [] c.in-Ok.world old new) (λ why. Stops why (line.Volume c.args.setup.now) [] old new)) c.in-Ok-write_turn.is done

pub returns-in-Err-write_turn-clause-done : goal.returns-in-Err-write_turn-clause-done
returns-in-Err-write_turn-clause-done g c =
    let old = g.K.Sink.holds c.args.sink.now in
    let new = g.K.Sink.holds c.write_turn.new.sink in
    let wrote = subst (λ rs. WroteTurn c.write_turn.result c.args.text.now rs old new) c.as_slice.ensures c.write_turn.ensures.wrote in
    let done = opening_done c.args.setup.now c.in-Ok.world c.args.text.now c.in-Ok.notes c.requires c.in-Ok.ensures.follows (ap (λ w. w.proxy.setup) c.in-Ok.ensures.gives.1) c.in-Ok.ensures.gives.0.one c.write_turn.result old new wrote in
    subst (λ r. MatchResult r (λ u. Passes (line.Volume c.args.setup.now) [] c.in-Ok.world old new) (λ why. Stops why (line.Volume c.args.setup.now) [] old new)) c.in-Err-write_turn.is done

pub returns-in-Err-clause-done : goal.returns-in-Err-clause-done
returns-in-Err-clause-done g c = rw c.stop_of.ensures (opening_fails c.in-Err.fault c.args.setup.now _ c.in-Err.ensures.gives)
