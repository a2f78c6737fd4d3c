use Rattle.std.proofs.Common.{List, sym, refl, ap, ◌∙◌}
use Rattle.std.proofs.lemmas.Result.{err_from_is_err_and}
use Rattle.std.specs.List.{slice_get}
use Rattle.std.specs.Option.{option_copied}
use Rattle.std.specs.Vec.{with_items}
use Rattle.sl_history.specs.Turns.{Did}
use Rattle.sl_datagram.specs.Datagrams.{asked_of}
use Rattle.sl_referee.specs.declared.case.Case.{Case}
use Rattle.sl_referee.specs.Dockets.{with_effect}
use Rattle.sl_referee.proofs.Taking.{effect_of_no_call, effect_of_none, effect_refused, effect_stops, effect_taken, handed_on, set_in}
use Rattle.sl_referee.proofs.docket.Docket.note_effect.Goals as goal

pub returns-in_default : goal.returns-in_default
returns-in_default c =
    let d = c.args.self.now in
    let found = c.case_at.ensures ∙ ap (λ (cs : List Case). slice_get cs c.args.arrival) c.as_slice.ensures.value in
    record { notes = effect_of_none d d c.args.now c.args.arrival c.args.at c.args.choice (sym found ∙ ap option_copied c.in_default.is) }

pub returns-in_default-call : goal.returns-in_default-call
returns-in_default-call c =
    let d = c.args.self.now in
    let found = c.case_at.ensures ∙ ap (λ (cs : List Case). slice_get cs c.args.arrival) c.as_slice.ensures.value in
    let got = sym found ∙ ap option_copied c.in-Some.is in
    let none = rw c.in_default-call.is at c.asked_by-call.ensures in
    record { notes = effect_of_no_call d d c.args.now c.args.arrival c.args.at c.args.choice c.in-Some.case.now got none }

pub returns-in_err-taken : goal.returns-in_err-taken
returns-in_err-taken c =
    let d = c.args.self.now in
    let found = c.case_at.ensures ∙ ap (λ (cs : List Case). slice_get cs c.args.arrival) c.as_slice.ensures.value in
    let got = sym found ∙ ap option_copied c.in-Some.is in
    let asks = rw c.in-Some-call.is at c.asked_by-call.ensures in
    let p = err_from_is_err_and c.from_residual.result c.from_residual.ensures.1 in
    let d' = record d { volume = c.take_effect.new.volume } in
    record {
      notes = handed_on d d' c.args.now (Did c.args.arrival c.args.at c.args.choice) c.from_residual.result c.in_err-taken.field-0.0 p.0 p.1 p.2
          (effect_stops d d' c.args.now c.args.arrival c.args.at c.args.choice c.in-Some.case.now (asked_of c.in-Some-call.asked.now) c.in_err-taken.field-0.0 got asks
          c.in_err-taken.ensures.stopped);
    }

pub returns-in_default-taken : goal.returns-in_default-taken
returns-in_default-taken c =
    let d = c.args.self.now in
    let found = c.case_at.ensures ∙ ap (λ (cs : List Case). slice_get cs c.args.arrival) c.as_slice.ensures.value in
    let got = sym found ∙ ap option_copied c.in-Some.is in
    let asks = rw c.in-Some-call.is at c.asked_by-call.ensures in
    let never = rw c.in_default-taken.is at c.in_ok-taken.ensures.taken in
    record {
      notes = effect_refused d (record d { volume = c.take_effect.new.volume }) c.args.now c.args.arrival c.args.at c.args.choice c.in-Some.case.now
          (asked_of c.in-Some-call.asked.now) got asks never;
    }

pub returns : goal.returns
returns c =
    let d = c.args.self.now in
    let found = c.case_at.ensures ∙ ap (λ (cs : List Case). slice_get cs c.args.arrival) c.as_slice.ensures.value in
    let got = sym found ∙ ap option_copied c.in-Some.is in
    let asks = rw c.in-Some-call.is at c.asked_by-call.ensures in
    let taken = rw c.in-Some-taken.is at c.in_ok-taken.ensures.taken in
    record {
      notes = effect_taken d (record d { cases = with_items d.cases c.set_effect.new.cases; volume = c.take_effect.new.volume }) c.args.now c.args.arrival c.args.at c.args.choice
          c.in-Some.case.now (asked_of c.in-Some-call.asked.now) (record { event = c.newest-event.result; bytes = c.in-Some-taken.bytes }) got asks taken.0
          (set_in d c.deref_mut.result.now c.set_effect.new.cases c.args.arrival (with_effect (record { event = c.newest-event.result; bytes = c.in-Some-taken.bytes }))
          c.deref_mut.ensures.value c.set_effect.ensures)
          c.newest-event.ensures taken.2 taken.1 refl refl refl;
    }
