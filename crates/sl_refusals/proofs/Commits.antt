-- Legal replies to COMMIT and NULL, and others, by computing.
use Rattle.std.proofs.Common.{◌≡◌, not, refl, sym, ap, ◌∙◌, [], ◌∷◌, Some, inl, true, false, true≢false, arith}
use Rattle.std.specs.FinMap.{get}
use Rattle.sl_defs.specs.Items.{u32_text, u64_text, u32_at, u64_at, opaque_at, opaque_text}
use Rattle.sl_defs.specs.Rpc.{call_header_at, auth_at, zero_at, refusal_of, accepted_text}
use Rattle.sl_types.specs.Handles.{form_text, form_at, magic_at, handle_of}
use Rattle.sl_types.specs.declared.call.Stable.TheVariants as stable
use Rattle.sl_types.specs.Numbers.{is_ok_status}
use Rattle.sl_items.specs.Reading.{fh_at, bytes_at, stable_at}
use Rattle.sl_calls.specs.Reading.{args_at, write_at, commit_at}
use Rattle.sl_calls.specs.Args.{args_text}
use Rattle.sl_rpc.specs.Heads.{nobody}
use Rattle.sl_model.specs.Gathered.{is_unstable}
use Rattle.sl_model.specs.Laws.{status_of}
use Rattle.sl_model.specs.Volume.{Volume, seen, seen_as, put_seen, restart, flush, after_changes}
use Rattle.sl_model.specs.Changing.{writing}
use Rattle.sl_model.specs.Perform.{perform}
use Rattle.sl_history.specs.Turns.{Flush, Replied, turn_of}
use Rattle.sl_history.specs.Arrivals.{datagram, asked}
use Rattle.sl_history.specs.Volumes.{volume_after, volume_at}
use Rattle.sl_history.specs.Frames.{is_up}
use Rattle.sl_history.specs.Legal.{Legal, any_in, is_kept, no_choice}
use Rattle.sl_examples.specs.Histories.{start, fence, epoch, null_reply}
use Rattle.sl_refusals.specs.Packets.{answers, write, commit}
use Rattle.sl_refusals.specs.Volumes.{filed, made_file}
use Rattle.sl_refusals.specs.Answers.{sized, written, commit_answer, committed, null_lost, null_answered_later, CommitsAreToldApart, InstantRepliesAreToldApart}
use Rattle.std.specs.Cmp.{nat_cmp_total}
use Rattle.sl_refusals.proofs.Lookups.{put_here}
use Rattle.sl_refusals.proofs.Performs.{writes, commits}
use Rattle.sl_refusals.proofs.Effects.{welcomed_is_legal, file_is_there}

abbrev pub before : Volume
before = restart fence filed

-- the volume with the byte, which isn't stable
abbrev pub dirty : Volume
dirty = after_changes (writing made_file 0 (120 ∷ []) stable.Unstable fence epoch false).changes before

pub write_makes : perform before (write 0 stable.Unstable) nobody epoch no_choice ≡ (dirty, (writing made_file 0 (120 ∷ []) stable.Unstable fence epoch false).answer)
write_makes = writes before 0 made_file stable.Unstable no_choice file_is_there (ap (seen_as []) file_is_there)

pub written_is_legal : Legal filed written
unfolding volume_after asked any_in turn_of datagram call_header_at u32_text u32_at u64_text u64_at opaque_at opaque_text auth_at zero_at refusal_of accepted_text args_at write_at stable_at fh_at bytes_at args_text form_text
written_is_legal = (
  (welcomed_is_legal filed, record { may = tt; at_once = λ up. tt }),
  record {
    may = (
      record {
        changing = refl;
        accepted = refl;
        first = refl;
        after_arrival = inl (refl, omega arith);
        not_later = inl (refl, omega arith);
        unused = inl refl;
        kept = sym (ap (λ p. is_kept p.1) write_makes);
      },
      tt,
    );
    at_once = tt;
  },
)

-- ---- flushed

pub file_is_seen : seen dirty 2 ≡ Some sized
file_is_seen = ap (seen_as dirty.unstable) file_is_there

abbrev pub flushed : Volume
flushed = flush 2 dirty

pub file_is_sized : get flushed.nodes 2 ≡ Some sized
file_is_sized = ap (λ o. get (put_seen dirty.nodes 2 o) 2) file_is_seen ∙ put_here nat_cmp_total dirty.nodes 2 sized refl

commit_answers : (perform (flush 2 (perform before (write 0 stable.Unstable) nobody epoch no_choice).0) commit nobody epoch no_choice).1 ≡ commit_answer
commit_answers =
    ap (λ p. (perform (flush 2 p.0) commit nobody epoch no_choice).1) write_makes
    ∙ ap (λ p. p.1) (commits flushed 1 sized epoch no_choice file_is_sized (ap (seen_as flushed.unstable) file_is_sized))

is_committed : Legal filed (committed (Flush 2 ∷ []))
unfolding volume_after volume_at asked any_in turn_of datagram call_header_at u32_text u32_at u64_text u64_at opaque_at opaque_text auth_at zero_at refusal_of accepted_text args_at write_at stable_at commit_at fh_at bytes_at args_text form_text form_at magic_at handle_of
is_committed = (
  ((written_is_legal, record { may = tt; at_once = λ up. tt }), record { may = (tt, tt); at_once = tt }),
  record {
    may = (
      record {
        first = refl;
        is = record {
          accepted = refl;
          not_before = omega arith;
          not_later = omega arith;
          reply = sym (ap answers commit_answers);
          settled = λ ok. ap (λ p. not (is_unstable 2 (flush 2 p.0).unstable)) write_makes;
        };
      },
      tt,
    );
    at_once = tt;
  },
)

commit_answers_dirty : is_ok_status (status_of (perform (perform before (write 0 stable.Unstable) nobody epoch no_choice).0 commit nobody epoch no_choice).1) ≡ true
commit_answers_dirty =
    ap (λ p. is_ok_status (status_of (perform p.0 commit nobody epoch no_choice).1)) write_makes
    ∙ ap (λ p. is_ok_status (status_of p.1)) (commits dirty 0 sized epoch no_choice file_is_there file_is_seen)

is_unsettled : Legal filed (committed []) → ⊥
unfolding volume_after volume_at asked turn_of datagram call_header_at u32_text u32_at u64_text u64_at opaque_at opaque_text auth_at zero_at refusal_of accepted_text args_at write_at stable_at commit_at fh_at bytes_at args_text form_text form_at magic_at handle_of
is_unsettled legal = true≢false (sym (legal.1.may.0.is.settled commit_answers_dirty) ∙ ap (λ p. not (is_unstable 2 p.0.unstable)) write_makes)

pub commits_are_told_apart : CommitsAreToldApart
commits_are_told_apart = (is_committed, is_unsettled)

-- ---- NULL while the proxy is down

lost : Legal start (null_lost [])
unfolding any_in is_up datagram call_header_at u32_text u32_at opaque_at auth_at zero_at refusal_of accepted_text
lost = (((tt, record { may = (tt, tt); at_once = tt }), record { may = tt; at_once = tt }), record { may = (record { undone = refl; unanswered = refl }, tt); at_once = λ up. absurd (true≢false (sym up)) })

by_one_down : Legal start (null_lost (Replied 2 2 null_reply ∷ [])) → ⊥
unfolding is_up turn_of datagram call_header_at u32_text u32_at opaque_at auth_at zero_at refusal_of accepted_text
by_one_down legal = true≢false (sym legal.1.may.1.0.is.up)

later : Legal start null_answered_later → ⊥
unfolding turn_of datagram call_header_at u32_text u32_at opaque_at auth_at zero_at refusal_of accepted_text
later legal = absurd (omega (arith, legal.1.may.0.is.at_arrival))

pub instant_replies_are_told_apart : InstantRepliesAreToldApart
instant_replies_are_told_apart = (lost, by_one_down, later)
