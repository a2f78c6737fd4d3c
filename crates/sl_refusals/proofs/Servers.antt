-- Wired histories and others, by computing: who is asked, and for what.
use Rattle.std.proofs.Common.{refl, sym, ap, ◌∙◌, inl, not, true≢false}
use Rattle.sl_defs.specs.Items.{u32_text, u64_text, u32_at, u64_at, opaque_at, opaque_text}
use Rattle.sl_defs.specs.Rpc.{call_header_at, auth_at, zero_at, refusal_of, accepted_text}
use Rattle.sl_types.specs.Handles.{form_text, form_at, magic_at, internal_of}
use Rattle.sl_items.specs.Reading.{fh_at, bytes_at, stable_at}
use Rattle.sl_calls.specs.Reading.{args_at, read_at, write_at}
use Rattle.sl_calls.specs.Args.{args_text}
use Rattle.sl_model.specs.Gathered.{is_unstable}
use Rattle.sl_history.specs.Turns.{turn_of}
use Rattle.sl_history.specs.Frames.{is_up, frame, in_flight}
use Rattle.sl_history.specs.Arrivals.{datagram, asked}
use Rattle.sl_history.specs.Volumes.{volume_after}
use Rattle.sl_history.specs.Licensed.{request}
use Rattle.sl_history.specs.Wired.{Wired, frames}
use Rattle.sl_examples.specs.Histories.{setup, welcomed}
use Rattle.sl_refusals.specs.Volumes.{filed}
use Rattle.sl_refusals.specs.Answers.{written}
use Rattle.sl_refusals.specs.Requests.{asked_both, second_answers, asked_after, ServersAreToldApart, QuietFilesAreToldApart}
use Rattle.sl_refusals.proofs.Commits.{write_makes}
use Rattle.sl_refusals.proofs.Requests.{welcomed_is_wired, no_answer}

-- ---- two servers

both_are_wired : Wired setup filed asked_both
unfolding frames frame in_flight is_up request volume_after datagram call_header_at u32_text u32_at u64_text u64_at opaque_at opaque_text auth_at zero_at refusal_of accepted_text args_at read_at fh_at args_text form_text
both_are_wired = (
  (
    (
      welcomed_is_wired filed,
      record { flying = tt; may = (record { number = refl; sender = refl; answer = λ is. absurd (true≢false (sym is)); quiet = refl }, tt); told = (tt, tt) },
    ),
    record { flying = tt; may = (record { number = refl; sender = refl; answer = λ is. absurd (true≢false (sym is)); quiet = refl }, tt); told = (tt, tt) },
  ),
  record { flying = refl; may = tt; told = tt },
)

by_the_second : Wired setup filed (second_answers 2)
unfolding frames frame in_flight is_up request volume_after
by_the_second = (
  both_are_wired,
  record {
    flying = refl;
    may = (
      record {
        number = refl;
        sender = refl;
        answer = λ is. record {
          asking = _;
          given = inl (record { gives = refl; up = refl });
          answers = record { kind = refl; sender = refl; receiver = refl; fence = refl; tag = refl; op = refl };
        };
        quiet = refl;
      },
      tt,
    );
    told = (tt, tt);
  },
)

for_the_first : Wired setup filed (second_answers 1) → ⊥
unfolding frame
for_the_first wired = no_answer _ _ refl (wired.1.may.0.answer refl)

pub servers_are_told_apart : ServersAreToldApart
servers_are_told_apart = (by_the_second, for_the_first)

-- ---- a file's attributes

of_clean : Wired setup filed (asked_after welcomed)
unfolding frames is_up request volume_after datagram call_header_at u32_text u32_at u64_text u64_at opaque_at opaque_text auth_at zero_at refusal_of accepted_text args_at fh_at args_text form_text form_at magic_at internal_of
of_clean = (
  welcomed_is_wired filed,
  record { flying = tt; may = (record { number = refl; sender = refl; answer = λ is. absurd (true≢false (sym is)); quiet = refl }, tt); told = (tt, tt) },
)

of_dirty : Wired setup filed (asked_after written) → ⊥
unfolding volume_after asked turn_of datagram call_header_at u32_text u32_at u64_text u64_at opaque_at opaque_text auth_at zero_at refusal_of accepted_text args_at write_at stable_at bytes_at fh_at args_text form_text form_at magic_at internal_of
of_dirty wired = true≢false (sym wired.1.may.0.quiet ∙ ap (λ p. not (is_unstable 2 p.0.unstable)) write_makes)

pub quiet_files_are_told_apart : QuietFilesAreToldApart
quiet_files_are_told_apart = (of_clean, of_dirty)
