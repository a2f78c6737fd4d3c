-- Histories that remember what was told and others, by computing.
use Rattle.std.proofs.Common.{◌≡◌, ◌==◌, ◌&&◌, ◌||◌, refl, sym, ◌∙◌, [], ◌∷◌, Bool, true, false, true≢false, lit<, if◌then◌else◌}
use Rattle.sl_defs.specs.Items.{u32_text, u64_text, u32_at, u64_at, opaque_at, opaque_text}
use Rattle.sl_defs.specs.Rpc.{call_header_at, auth_at, zero_at, refusal_of, accepted_text}
use Rattle.sl_types.specs.Handles.{form_text, form_at, magic_at, handle_of}
use Rattle.sl_items.specs.Reading.{fh_at, bytes_at, stable_at, kind_at, time_at, fattr_front_at, fattr_place_at, fattr_times_at, fattr_at}
use Rattle.sl_items.specs.Spelling.{time_text, fattr_front_text, fattr_place_text, fattr_times_text, fattr_text}
use Rattle.sl_calls.specs.Reading.{args_at, write_at}
use Rattle.sl_calls.specs.Args.{args_text}
use Rattle.sl_replies.specs.Reading.{status_at, reply_at, reply_of, result_at}
use Rattle.sl_edit.specs.Spans.{results_in, word_at}
use Rattle.sl_frames.specs.declared.body.Body.TheVariants as body
use Rattle.sl_history.specs.Turns.{Sent, Replied, turn_of}
use Rattle.sl_history.specs.Arrivals.{datagram, asked, waiting}
use Rattle.sl_history.specs.Remembering.{Remembers, tells, is_calm, datagrams_since}
use Rattle.sl_refusals.specs.Packets.{call_packet, answers, look_at_file}
use Rattle.sl_refusals.specs.Frames.{request}
use Rattle.sl_refusals.specs.Memories.{told, look_answer, asked_again, asked_beside_write, look_replied, write_replied, MemoriesAreToldApart}

-- a turn without a reply tells nothing
silent : (now before : Bool) → before ≡ false → (if now then false || before else before) ≡ false
silent true before is = is
silent false before is = is

told_is_known : Remembers told
unfolding tells asked turn_of
told_is_known = (
  (
    (
      (((tt, ((λ e file known. refl), tt)), ((λ e file known. refl), tt)), (tt, tt)),
      ((λ e file known. absurd (true≢false (sym known.told ∙ silent (3 == e) _ (silent (2 == e) _ (silent (1 == e) _ (silent (0 == e) _ refl)))))), tt),
    ),
    ((λ e file known. refl), tt),
  ),
  (tt, tt),
)

replied : Remembers (asked_again (Replied 6 6 (answers look_answer) ∷ []))
replied = (told_is_known, (tt, tt))

asked_twice : Remembers (asked_again (Sent 5 (request 16 2 6 (body.Forward 0 (call_packet 2 (look_at_file 16)))) ∷ [])) → ⊥
unfolding tells is_calm waiting datagrams_since asked turn_of datagram call_header_at u32_text u32_at u64_text u64_at opaque_at opaque_text auth_at zero_at refusal_of accepted_text args_at fh_at args_text form_text form_at magic_at handle_of results_in word_at reply_of reply_at status_at result_at fattr_at fattr_front_at fattr_place_at fattr_times_at time_at kind_at fattr_text fattr_front_text fattr_place_text fattr_times_text time_text
asked_twice remembers = true≢false (remembers.1.0 5 2 (record { told = refl; before = lit< tt; calm = refl; few = lit< tt }))

-- a turn in which the attributes are told while another call waits tells nothing that counts
busy : (now answers_it before : Bool) → before ≡ false → (if now then ((answers_it && false) || false) || before else before) ≡ false
busy true true before is = is
busy true false before is = is
busy false answers_it before is = is

waited : Remembers (asked_beside_write (look_replied ∷ write_replied ∷ []))
unfolding tells is_calm waiting datagrams_since asked turn_of datagram call_header_at u32_text u32_at u64_text u64_at opaque_at opaque_text auth_at zero_at refusal_of accepted_text args_at fh_at bytes_at stable_at write_at args_text form_text form_at magic_at handle_of results_in word_at reply_of reply_at status_at result_at fattr_at fattr_front_at fattr_place_at fattr_times_at time_at kind_at fattr_text fattr_front_text fattr_place_text fattr_times_text time_text
waited = (
  (
    (
      (
        (
          ((((tt, ((λ e file known. refl), tt)), ((λ e file known. refl), tt)), (tt, tt))),
          ((λ e file known. absurd (true≢false (sym known.told ∙ silent (3 == e) _ (silent (2 == e) _ (silent (1 == e) _ (silent (0 == e) _ refl)))))), tt),
        ),
        tt,
      ),
      ((λ e file known. refl), tt),
    ),
    (tt, (tt, tt)),
  ),
  (
    (λ e file known. absurd (true≢false (sym known.told
        ∙ silent (7 == e) _ (busy (6 == e) _ _ (silent (5 == e) _ (silent (4 == e) _ (silent (3 == e) _ (silent (2 == e) _ (silent (1 == e) _ (silent (0 == e) _ refl)))))))))),
    tt,
  ),
)

waited_before : Remembers (asked_beside_write (write_replied ∷ look_replied ∷ [])) → ⊥
unfolding tells is_calm waiting datagrams_since asked turn_of datagram call_header_at u32_text u32_at u64_text u64_at opaque_at opaque_text auth_at zero_at refusal_of accepted_text args_at fh_at bytes_at stable_at write_at args_text form_text form_at magic_at handle_of results_in word_at reply_of reply_at status_at result_at fattr_at fattr_front_at fattr_place_at fattr_times_at time_at kind_at fattr_text fattr_front_text fattr_place_text fattr_times_text time_text
waited_before remembers = true≢false (remembers.1.0 6 2 (record { told = refl; before = lit< tt; calm = refl; few = lit< tt }))

pub memories_are_told_apart : MemoriesAreToldApart
memories_are_told_apart = (replied, asked_twice, waited, waited_before)
