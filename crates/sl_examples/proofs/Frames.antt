-- Wired histories and others, by computing.
use Rattle.std.proofs.Common.{◌≡◌, ℕ, refl, sym, [], ◌∷◌, Some, None, inl, inr, true, false, true≢false, ◌⊎◌}
use Rattle.std.specs.Prelude.{is_some}
use Rattle.std.proofs.Common.{ap}
use Rattle.sl_frames.specs.declared.frame.Frame.{Frame}
use Rattle.sl_frames.specs.declared.body.Body.TheVariants as body
use Rattle.sl_history.specs.Turns.{Turn, History, Remark, so_far}
use Rattle.sl_history.specs.Volumes.{volume_after}
use Rattle.sl_history.specs.Frames.{is_up, frame, in_flight, WasGiven, IsGivenIn}
use Rattle.sl_history.specs.Licensed.{request}
use Rattle.sl_history.specs.Wired.{Wired, IsWiredTurn, IsSent, IsAnswer, Answers, frames}
use Rattle.sl_defs.specs.declared.event.Event.TheVariants as event
use Rattle.sl_examples.specs.Histories.{turn, setup, start, opening, opened, greeted, welcomed, greeting, unasked, never_sent, given_again, answered_by_another}
use Rattle.sl_examples.specs.Claims.{FramesAreToldApart}

pub opening_is_wired : Wired setup start opened
unfolding frames request volume_after
opening_is_wired = (
  tt,
  record {
    flying = tt;
    may = (record { number = refl; sender = refl; answer = λ is. absurd (true≢false (sym is)); quiet = refl }, tt);
    told = (tt, tt);
  },
)

greeting_is_wired : Wired setup start greeted
unfolding frames frame in_flight is_up request volume_after
greeting_is_wired = (
  opening_is_wired,
  record {
    flying = refl;
    may = (
      record {
        number = refl;
        sender = refl;
        answer = λ is. record {
          asking = greeting 0 1 body.Hello;
          given = inl (record { gives = refl; up = refl });
          answers = record { kind = refl; sender = refl; receiver = refl; fence = refl; tag = refl; op = refl };
        };
        quiet = refl;
      },
      tt,
    );
    told = (tt, tt);
  },
)

pub welcome_is_wired : Wired setup start welcomed
unfolding in_flight
welcome_is_wired = (greeting_is_wired, record { flying = refl; may = (tt, tt); told = tt })

-- none and some differ
apart : (f : Frame) → None ≡ Some f → ⊥
apart f e = true≢false (sym (ap is_some e))

nobody : (f : Frame) → WasGiven (turn event.Tick [] ∷ opened) f → ⊥
nobody f (inl given) = apart f given.gives
nobody f (inr (inl given)) = apart f given.gives
nobody f (inr (inr none)) = none

asked : Wired setup start unasked → ⊥
asked wired = let answer = wired.1.may.0.answer refl in nobody answer.asking answer.given

unsent : Wired setup start never_sent → ⊥
unfolding in_flight
unsent wired = true≢false (sym wired.1.flying)

again : Wired setup start given_again → ⊥
unfolding in_flight
again wired = true≢false (sym wired.1.flying)

another : Wired setup start answered_by_another → ⊥
unfolding frame
another wired = true≢false (sym wired.1.may.0.sender)

pub frames_are_told_apart : FramesAreToldApart
frames_are_told_apart = (welcome_is_wired, asked, unsent, again, another)
