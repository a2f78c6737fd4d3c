-- Wired histories and others, by computing: frames and their answers.
use Rattle.std.proofs.Common.{[], ◌∷◌, ◌≡◌, ◌+◌, refl, sym, inl, false, true≢false, arith}
use Rattle.sl_defs.specs.declared.event.Event.TheVariants as event
use Rattle.sl_frames.specs.declared.frame.Frame.{Frame}
use Rattle.sl_frames.specs.declared.body.Body.TheVariants as body
use Rattle.sl_model.specs.Volume.{Volume}
use Rattle.sl_history.specs.Turns.{History}
use Rattle.sl_history.specs.Frames.{is_up, frame, in_flight}
use Rattle.sl_history.specs.Volumes.{volume_after}
use Rattle.sl_history.specs.Licensed.{request}
use Rattle.sl_history.specs.Wired.{Wired, IsAnswer, frames}
use Rattle.sl_examples.specs.Histories.{turn, setup, start, fence, greeting, opened, greeted, welcomed, asked_for_root, asking}
use Rattle.sl_refusals.specs.Requests.{sent, sent_down, lost_then, copied_then, FlightsAreToldApart, right_answer, told, SendersAreToldApart, AnswersAreToldApart}
use Rattle.sl_refusals.proofs.Given.{some_given, not_given, is_answered_by, answers_it}

-- the opening, Hello and Welcome
pub opened_is_wired : (v : Volume) → Wired setup v opened
unfolding frames request volume_after
opened_is_wired v =
    (tt, record { flying = tt; may = (record { number = refl; sender = refl; answer = λ is. absurd (true≢false (sym is)); quiet = refl }, tt); told = (tt, tt) })

pub greeted_is_wired : (v : Volume) → Wired setup v greeted
unfolding frames frame in_flight is_up request volume_after
greeted_is_wired v = (
  opened_is_wired v,
  record {
    flying = refl;
    may = (
      record {
        number = refl;
        sender = refl;
        answer = λ is. record {
          asking = greeting 0 1 body.Hello;
          given = inl (record { gives = refl; up = refl });
          answers = record { kind = refl; sender = refl; receiver = refl; fence = refl; tag = refl; op = refl };
        };
        quiet = refl;
      },
      tt,
    );
    told = (tt, tt);
  },
)

pub welcomed_is_wired : (v : Volume) → Wired setup v welcomed
unfolding in_flight
welcomed_is_wired v = (greeted_is_wired v, record { flying = refl; may = (tt, tt); told = tt })

misnumbered : Wired setup start (sent 3 (greeting 1 0 body.Welcome)) → ⊥
unfolding frames
misnumbered wired = absurd (omega (arith, wired.1.may.0.number))

by_another : Wired setup start (sent 2 (greeting 0 1 body.Hello)) → ⊥
unfolding frame
by_another wired = true≢false (sym wired.1.may.0.sender)

by_one_down : Wired setup start sent_down → ⊥
unfolding is_up frame
by_one_down wired = true≢false (sym wired.1.may.0.sender)

pub senders_are_told_apart : SendersAreToldApart
senders_are_told_apart = (greeted_is_wired start, misnumbered, by_another, by_one_down)

-- ---- answers

asked_is_wired : Wired setup start asked_for_root
unfolding frames frame is_up request volume_after
asked_is_wired = (
  welcomed_is_wired start,
  record { flying = tt; may = (record { number = refl; sender = refl; answer = λ is. absurd (true≢false (sym is)); quiet = refl }, tt); told = (tt, tt) },
)

answered : Wired setup start (told right_answer)
unfolding frames frame in_flight is_up request volume_after
answered = (
  asked_is_wired,
  record {
    flying = refl;
    may = (
      record {
        number = refl;
        sender = refl;
        answer = λ is. record {
          asking = asking;
          given = inl (record { gives = refl; up = refl });
          answers = record { kind = refl; sender = refl; receiver = refl; fence = refl; tag = refl; op = refl };
        };
        quiet = refl;
      },
      tt,
    );
    told = ((λ here. refl, tt), tt);
  },
)

-- no frame was given that this one could answer
pub no_answer : (h : History) (f : Frame) → some_given (is_answered_by f) h ≡ false → IsAnswer h f → ⊥
no_answer h f none x = not_given (is_answered_by f) h x.asking none (answers_it f x.asking x.answers) x.given

other_fence : Wired setup start (told (record right_answer { fence = fence + 1 })) → ⊥
unfolding frame
other_fence wired = no_answer _ _ refl (wired.1.may.0.answer refl)

other_tag : Wired setup start (told (record right_answer { tag = 2 })) → ⊥
unfolding frame
other_tag wired = no_answer _ _ refl (wired.1.may.0.answer refl)

other_operation : Wired setup start (told (record right_answer { op = 1 })) → ⊥
unfolding frame
other_operation wired = no_answer _ _ refl (wired.1.may.0.answer refl)

other_receiver : Wired setup start (told (record right_answer { to = 1 })) → ⊥
unfolding frame
other_receiver wired = no_answer _ _ refl (wired.1.may.0.answer refl)

other_kind : Wired setup start (told (record right_answer { «body» = body.Minted 5 })) → ⊥
unfolding frame
other_kind wired = no_answer _ _ refl (wired.1.may.0.answer refl)

pub answers_are_told_apart : AnswersAreToldApart
answers_are_told_apart = (answered, other_fence, other_tag, other_operation, other_receiver, other_kind)

-- ---- frames in flight

lost : Wired setup start (turn (event.Drop 1) [] ∷ opened)
unfolding in_flight
lost = (opened_is_wired start, record { flying = refl; may = tt; told = tt })

copied : Wired setup start (turn (event.Give 1) [] ∷ turn (event.Copy 1) [] ∷ opened)
unfolding in_flight
copied = ((opened_is_wired start, record { flying = refl; may = tt; told = tt }), record { flying = refl; may = tt; told = tt })

lost_late : Wired setup start lost_then → ⊥
unfolding in_flight
lost_late wired = true≢false (sym wired.1.flying)

copied_late : Wired setup start copied_then → ⊥
unfolding in_flight
copied_late wired = true≢false (sym wired.1.flying)

pub flights_are_told_apart : FlightsAreToldApart
flights_are_told_apart = (lost, copied, lost_late, copied_late)
