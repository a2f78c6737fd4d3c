-- A byte is written and read, by computing.
use Rattle.std.proofs.Common.{◌≡◌, ℕ, ◌==◌, List, refl, sym, ap, ◌∙◌, [], ◌∷◌, Ok, Some, inl, true, true≢false, arith}
use Rattle.std.specs.Prelude.{slice_index}
use Rattle.sl_defs.specs.Items.{u32_text, u64_text, u32_at, u64_at, opaque_at, opaque_text}
use Rattle.sl_defs.specs.Parts.{optional_text}
use Rattle.sl_defs.specs.Rpc.{call_header_at, auth_at, zero_at, refusal_of, accepted_text}
use Rattle.sl_types.specs.Handles.{form_text}
use Rattle.sl_types.specs.declared.call.Stable.TheVariants as stable
use Rattle.sl_types.specs.declared.reply.Reply.{Reply}
use Rattle.sl_types.specs.declared.reply.Reply.TheVariants as reply
use Rattle.sl_items.specs.Reading.{fh_at, bytes_at, stable_at}
use Rattle.sl_items.specs.Spelling.{fattr_text, fattr_front_text, fattr_place_text, fattr_times_text, time_text}
use Rattle.sl_calls.specs.Reading.{args_at, write_at, read_at}
use Rattle.sl_calls.specs.Args.{args_text}
use Rattle.sl_replies.specs.Texts.{read_ok_text}
use Rattle.sl_rpc.specs.Heads.{nobody}
use Rattle.sl_model.specs.Looking.{attributes}
use Rattle.sl_model.specs.Perform.{perform}
use Rattle.sl_history.specs.Turns.{turn_of}
use Rattle.sl_history.specs.Arrivals.{datagram, asked}
use Rattle.sl_history.specs.Volumes.{volume_after, volume_at, effect}
use Rattle.sl_history.specs.Legal.{Legal, any_in, is_kept, no_choice}
use Rattle.sl_examples.specs.Histories.{epoch}
use Rattle.sl_refusals.specs.Packets.{answers, write, read}
use Rattle.sl_refusals.specs.Volumes.{filed}
use Rattle.sl_refusals.specs.Answers.{sized}
use Rattle.sl_refusals.specs.Sequences.{written_then_read, BytesAreToldApart}
use Rattle.sl_refusals.proofs.Performs.{reads}
use Rattle.sl_refusals.proofs.Effects.{welcomed_is_legal, file_is_there}
use Rattle.sl_refusals.proofs.Commits.{before, dirty, write_makes, file_is_seen}

abbrev gives : List ℕ → Reply
gives bytes = reply.Read (Ok (record { attributes = Some (attributes sized); count = 1; eof = true; bytes = bytes }))

read_answers : (perform (perform before (write 0 stable.Unstable) nobody epoch no_choice).0 (read 0) nobody epoch no_choice).1 ≡ gives (120 ∷ [])
read_answers =
    ap (λ p. (perform p.0 (read 0) nobody epoch no_choice).1) write_makes
    ∙ ap (λ p. p.1) (reads dirty 0 sized epoch no_choice file_is_there file_is_seen)

is_read : Legal filed (written_then_read (120 ∷ []))
unfolding effect volume_after volume_at asked any_in turn_of datagram call_header_at u32_text u32_at u64_text u64_at opaque_at opaque_text auth_at zero_at refusal_of accepted_text args_at write_at read_at stable_at fh_at bytes_at args_text form_text
is_read = (
  (
    (
      (welcomed_is_legal filed, record { may = tt; at_once = λ up. tt }),
      record {
        may = (
          record {
            changing = refl;
            accepted = refl;
            first = refl;
            after_arrival = inl (refl, omega arith);
            not_later = inl (refl, omega arith);
            unused = inl refl;
            kept = sym (ap (λ p. is_kept p.1) write_makes);
          },
          (record { first = refl; is = record { event = refl; reply = sym (ap (λ p. answers p.1) write_makes) } }, tt),
        );
        at_once = tt;
      },
    ),
    record { may = tt; at_once = λ up. tt },
  ),
  record {
    may = (
      record { first = refl; is = record { accepted = refl; not_before = omega arith; not_later = omega arith; reply = sym (ap answers read_answers); settled = λ ok. refl } },
      tt,
    );
    at_once = tt;
  },
)

bytes_differ : answers (gives (121 ∷ [])) ≡ answers (gives (120 ∷ [])) → ⊥
unfolding u32_text u64_text accepted_text opaque_text optional_text read_ok_text fattr_text fattr_front_text fattr_place_text fattr_times_text time_text
bytes_differ same = true≢false (ap (λ (bytes : List ℕ). slice_index bytes 128 == 121) same)

other_bytes : Legal filed (written_then_read (121 ∷ [])) → ⊥
unfolding volume_after volume_at asked turn_of datagram call_header_at u32_text u32_at u64_text u64_at opaque_at opaque_text auth_at zero_at refusal_of accepted_text args_at write_at read_at stable_at fh_at bytes_at args_text form_text
other_bytes legal = bytes_differ (legal.1.may.0.is.reply ∙ ap answers read_answers)

pub bytes_are_told_apart : BytesAreToldApart
bytes_are_told_apart = (is_read, other_bytes)
