-- Completed histories and others, by computing.
use Rattle.std.proofs.Common.{◌≡◌, ◌==◌, ◌&&◌, ◌||◌, length, not, refl, sym, ap, Bool, true, false, true≢false, arith, if◌then◌else◌, Some, None}
use Rattle.sl_defs.specs.Items.{u32_text, u64_text, u32_at, u64_at, opaque_at, opaque_text}
use Rattle.sl_defs.specs.Rpc.{call_header_at, auth_at, zero_at, refusal_of, accepted_text}
use Rattle.sl_types.specs.Handles.{form_text}
use Rattle.sl_items.specs.Reading.{fh_at}
use Rattle.sl_calls.specs.Reading.{args_at}
use Rattle.sl_calls.specs.Args.{args_text}
use Rattle.sl_frames.specs.declared.frame.Frame.{Frame}
use Rattle.sl_frames.specs.declared.body.Body.TheVariants as body
use Rattle.sl_history.specs.Frames.{in_flight, is_sent, last_hello, last_verf}
use Rattle.sl_history.specs.Arrivals.{datagram, waiting}
use Rattle.sl_history.specs.Completing.{Completed, NothingFlies, count, is_undisturbed}
use Rattle.sl_examples.specs.Histories.{greeting, welcomed}
use Rattle.sl_refusals.specs.Ends.{given_more, unwelcomed, unanswered, EndsAreToldApart}

-- a frame that was sent and given flies no more
one_lands : (f : Frame) (is : Bool) → (is_sent (if is then Some f else None) && not is || false) ≡ false
one_lands f true = refl
one_lands f false = refl

both_land : (f g : Frame) (is_f is_g : Bool)
    → (((is_sent (if is_f then Some f else None) && not is_f || is_sent (if is_g then Some g else None)) && not is_g || false) && true || false) ≡ false
both_land f g true true = refl
both_land f g true false = refl
both_land f g false true = refl
both_land f g false false = refl

ended : Completed welcomed
unfolding count waiting last_hello last_verf
ended calm = record { bounded = omega arith; welcomed = λ none. refl; answered = λ none. refl }

too_many : Completed given_more → ⊥
unfolding count is_undisturbed
too_many completed = absurd (omega (arith, (completed refl).bounded))

nothing_flies : NothingFlies unwelcomed
unfolding in_flight
nothing_flies k = one_lands (greeting 0 1 body.Hello) (1 == k)

no_welcome : Completed unwelcomed → ⊥
unfolding is_undisturbed last_hello last_verf
no_welcome completed = true≢false (sym ((completed refl).welcomed nothing_flies))

nothing_flies_on : NothingFlies unanswered
unfolding in_flight
nothing_flies_on k = both_land (greeting 0 1 body.Hello) (greeting 1 0 body.Welcome) (1 == k) (2 == k)

no_answer : Completed unanswered → ⊥
unfolding is_undisturbed waiting datagram call_header_at u32_text u32_at u64_text u64_at opaque_at opaque_text auth_at zero_at refusal_of accepted_text args_at fh_at args_text form_text
no_answer completed = absurd (omega (arith, ap length ((completed refl).answered nothing_flies_on)))

pub ends_are_told_apart : EndsAreToldApart
ends_are_told_apart = (ended, too_many, no_welcome, no_answer)
