-- Licensed histories and others, by computing: flushes, what is kept, and the want of fileids.
use Rattle.std.proofs.Common.{[], ◌∷◌, Some, false, ◌≡◌, refl, sym, ap, ◌∙◌, true, true≢false, lit<, arith}
use Rattle.sl_defs.specs.Items.{u32_text, u64_text, u32_at, u64_at, opaque_at, opaque_text}
use Rattle.sl_defs.specs.Parts.{optional_at, part_at, optional_text}
use Rattle.sl_defs.specs.Rpc.{call_header_at, auth_at, zero_at, refusal_of, accepted_text}
use Rattle.sl_types.specs.Handles.{form_text, form_at, magic_at, handle_of}
use Rattle.sl_types.specs.declared.call.Stable.TheVariants as stable
use Rattle.sl_items.specs.Reading.{fh_at, bytes_at, stable_at, sattr_at, set_time_at, given_time_at, time_at}
use Rattle.sl_items.specs.Spelling.{sattr_text, set_time_text}
use Rattle.sl_calls.specs.Reading.{args_at, write_at, commit_at, setattr_at}
use Rattle.sl_calls.specs.Args.{args_text}
use Rattle.sl_model.specs.Gathered.{is_unstable}
use Rattle.sl_model.specs.Laws.{status_of}
use Rattle.sl_model.specs.Perform.{perform}
use Rattle.sl_rpc.specs.Heads.{nobody}
use Rattle.sl_defs.specs.declared.event.Event.TheVariants as event
use Rattle.sl_history.specs.Turns.{Did, turn_of}
use Rattle.sl_history.specs.Frames.{is_up, frame, last_hello, last_verf}
use Rattle.sl_history.specs.Arrivals.{Asked, datagram, asked, waiting, dropped_by}
use Rattle.sl_history.specs.Volumes.{volume_after}
use Rattle.sl_history.specs.Legal.{no_choice}
use Rattle.sl_history.specs.Licensed.{flushes_for, Licensed, flushes, requests_given, had_many, flushing, is_no_space, was_sent}
use Rattle.sl_examples.specs.Histories.{epoch, turn, welcomed}
use Rattle.sl_refusals.specs.Packets.{asks, write, commit, change_root}
use Rattle.sl_refusals.specs.Volumes.{filed}
use Rattle.sl_refusals.specs.Effects.{done}
use Rattle.sl_refusals.specs.Answers.{written}
use Rattle.sl_refusals.specs.Flushes.{requested, requested_clean, requested_over, requested_again, requested_at_once, flushed, flushed_unasked, flushed_twice, FlushRequestsAreToldApart, FlushesAreToldApart, UnstableWritesAreToldApart}
use Rattle.sl_refusals.proofs.Commits.{before, write_makes}
use Rattle.sl_refusals.proofs.Drops.{welcomed_is_licensed}

pub written_is_licensed : Licensed filed written
unfolding volume_after asked turn_of datagram call_header_at u32_text u32_at u64_text u64_at opaque_at opaque_text auth_at zero_at refusal_of accepted_text args_at write_at stable_at fh_at bytes_at args_text form_text dropped_by is_up last_hello last_verf waiting
written_is_licensed = (
  (welcomed_is_licensed filed (lit< tt), record { may = tt; dropped = refl }),
  record {
    may = (
      record {
        kept = λ is. absurd (true≢false (sym is));
        no_space = λ is. absurd (true≢false (sym is ∙ ap (λ p. is_no_space (status_of p.1)) write_makes));
      },
      tt,
    );
    dropped = refl;
  },
)

kept : Licensed filed (done (write 0 stable.Unstable) (record no_choice { kept = true })) → ⊥
unfolding had_many flushing volume_after asked turn_of datagram call_header_at u32_text u32_at u64_text u64_at opaque_at opaque_text auth_at zero_at refusal_of accepted_text args_at write_at stable_at fh_at bytes_at args_text form_text form_at magic_at handle_of
kept licensed = true≢false (sym (licensed.1.may.0.kept refl))

pub unstable_writes_are_told_apart : UnstableWritesAreToldApart
unstable_writes_are_told_apart = (written_is_licensed, kept)

-- ---- requests for a flush

abbrev the_write : Asked
the_write = record { xid = 7; procedure = 7; call = write 0 stable.Unstable; cred = nobody }

is_dirty : is_unstable 2 (perform before (write 0 stable.Unstable) nobody epoch no_choice).0.unstable ≡ true
is_dirty = ap (λ p. is_unstable 2 p.0.unstable) write_makes

requested_is_licensed : Licensed filed (requested commit)
unfolding volume_after asked turn_of datagram call_header_at u32_text u32_at u64_text u64_at opaque_at opaque_text auth_at zero_at refusal_of accepted_text args_at write_at commit_at stable_at fh_at bytes_at args_text form_text form_at magic_at handle_of dropped_by is_up last_hello last_verf waiting
requested_is_licensed = (written_is_licensed, record { may = (λ new. record { unstable = is_dirty; call = refl }, tt); dropped = refl })

of_another_call : Licensed filed (requested change_root) → ⊥
unfolding was_sent volume_after asked turn_of datagram call_header_at u32_text u32_at u64_text u64_at opaque_at opaque_text auth_at zero_at refusal_of accepted_text args_at setattr_at sattr_at optional_at part_at time_at set_time_at given_time_at fh_at args_text sattr_text set_time_text optional_text form_text form_at magic_at handle_of
of_another_call licensed = true≢false (sym (licensed.1.may.0 refl).call)

few_writes : flushes_for (perform before (write 0 stable.Unstable) nobody epoch no_choice).0 2 (Some the_write) ≡ false
unfolding u32_text u32_at u64_text u64_at zero_at form_text form_at magic_at handle_of
few_writes = ap (λ p. flushes_for p.0 2 (Some the_write)) write_makes

of_a_write : Licensed filed (requested (write 0 stable.Unstable)) → ⊥
unfolding was_sent volume_after asked turn_of datagram call_header_at u32_text u32_at u64_text u64_at opaque_at opaque_text auth_at zero_at refusal_of accepted_text args_at write_at stable_at bytes_at fh_at args_text form_text
of_a_write licensed = true≢false (sym (licensed.1.may.0 refl).call ∙ few_writes)

of_clean : Licensed filed requested_clean → ⊥
unfolding was_sent volume_after
of_clean licensed = true≢false (sym (licensed.1.may.0 refl).unstable)

-- ---- flushes

flushed_is_licensed : Licensed filed flushed
unfolding volume_after asked turn_of datagram call_header_at u32_text u32_at u64_text u64_at opaque_at opaque_text auth_at zero_at refusal_of accepted_text args_at write_at stable_at fh_at bytes_at args_text form_text is_up frame flushes requests_given
flushed_is_licensed = (requested_is_licensed, record { may = (record { unstable = is_dirty; requested = omega arith }, tt); dropped = refl })

unasked : Licensed filed flushed_unasked → ⊥
unfolding is_up frame flushes requests_given
unasked licensed = absurd (omega (arith, licensed.1.may.0.requested))

twice : Licensed filed flushed_twice → ⊥
unfolding is_up frame flushes requests_given
twice licensed = absurd (omega (arith, licensed.1.may.0.requested))

pub flushes_are_told_apart : FlushesAreToldApart
flushes_are_told_apart = (flushed_is_licensed, unasked, twice)

-- ---- requests under a tag that was used before

over_another : Licensed filed requested_over → ⊥
unfolding was_sent volume_after asked turn_of datagram call_header_at u32_text u32_at u64_text u64_at opaque_at opaque_text auth_at zero_at refusal_of accepted_text args_at setattr_at sattr_at optional_at part_at time_at set_time_at given_time_at fh_at args_text sattr_text set_time_text optional_text form_text form_at magic_at handle_of
over_another licensed = true≢false (sym (licensed.1.may.0 refl).call)

again : Licensed filed requested_again
unfolding was_sent
again = (flushed_is_licensed, record { may = ((λ new. absurd (true≢false new)), tt); dropped = refl })

-- ---- requests in the event of the write

both_came : Licensed filed (turn (event.Call 0 (asks commit)) [] ∷ turn (event.Call 0 (asks (write 0 stable.Unstable))) [] ∷ welcomed)
unfolding volume_after asked turn_of datagram call_header_at u32_text u32_at u64_text u64_at opaque_at opaque_text auth_at zero_at refusal_of accepted_text args_at write_at commit_at stable_at fh_at bytes_at args_text form_text form_at magic_at handle_of dropped_by is_up last_hello last_verf waiting
both_came = ((welcomed_is_licensed filed (lit< tt), record { may = tt; dropped = refl }), record { may = tt; dropped = refl })

at_once : Licensed filed (requested_at_once (Did 3 epoch no_choice ∷ []))
unfolding volume_after asked turn_of datagram call_header_at u32_text u32_at u64_text u64_at opaque_at opaque_text auth_at zero_at refusal_of accepted_text args_at write_at commit_at stable_at fh_at bytes_at args_text form_text form_at magic_at handle_of dropped_by is_up last_hello last_verf waiting
at_once = (
  both_came,
  record {
    may = (
      λ new. record { unstable = is_dirty; call = refl },
      (
        record {
          kept = λ is. absurd (true≢false (sym is));
          no_space = λ is. absurd (true≢false (sym is ∙ ap (λ p. is_no_space (status_of p.1)) write_makes));
        },
        tt,
      ),
    );
    dropped = refl;
  },
)

before_it : Licensed filed (requested_at_once []) → ⊥
unfolding was_sent volume_after
before_it licensed = true≢false (sym (licensed.1.may.0 refl).unstable)

pub flush_requests_are_told_apart : FlushRequestsAreToldApart
flush_requests_are_told_apart = (requested_is_licensed, of_another_call, of_a_write, of_clean, over_another, again, at_once, before_it)
