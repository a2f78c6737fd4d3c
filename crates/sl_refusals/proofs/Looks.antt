-- Legal replies to calls that only ask, and others, by computing.
use Rattle.std.proofs.Common.{◌≡◌, ℕ, ◌==◌, List, refl, sym, ap, ◌∙◌, Ok, Some, inl, true≢false, arith}
use Rattle.std.specs.Prelude.{slice_index}
use Rattle.std.specs.FinMap.{get}
use Rattle.sl_defs.specs.Items.{u32_text, u64_text, u32_at, u64_at, opaque_at, opaque_text}
use Rattle.sl_defs.specs.Parts.{optional_at, part_at, optional_text}
use Rattle.sl_defs.specs.Rpc.{call_header_at, auth_at, zero_at, refusal_of, accepted_text}
use Rattle.sl_types.specs.Handles.{form_text}
use Rattle.sl_types.specs.declared.reply.Reply.{Reply}
use Rattle.sl_types.specs.declared.reply.Reply.TheVariants as reply
use Rattle.sl_items.specs.Reading.{fh_at, sattr_at, set_time_at, given_time_at, time_at}
use Rattle.sl_items.specs.Spelling.{sattr_text, set_time_text, fattr_text, fattr_front_text, fattr_place_text, fattr_times_text, time_text}
use Rattle.sl_calls.specs.Reading.{args_at, setattr_at}
use Rattle.sl_calls.specs.Args.{args_text}
use Rattle.sl_rpc.specs.Heads.{nobody}
use Rattle.sl_model.specs.declared.node.Node.{Node}
use Rattle.sl_model.specs.Volume.{Volume, seen_as, restart, after_changes}
use Rattle.sl_model.specs.Looking.{attributes}
use Rattle.sl_model.specs.Changing.{setting}
use Rattle.sl_model.specs.Perform.{new_root, perform}
use Rattle.sl_history.specs.Turns.{turn_of}
use Rattle.sl_history.specs.Arrivals.{datagram, asked}
use Rattle.sl_history.specs.Volumes.{volume_after, volume_at}
use Rattle.sl_history.specs.Legal.{Legal, any_in, is_kept, no_choice}
use Rattle.sl_examples.specs.Histories.{start, fence, epoch}
use Rattle.sl_refusals.specs.Packets.{answers, change_root, look_at_root, new_mode}
use Rattle.sl_refusals.specs.Answers.{changed_root, changed_meanwhile, looked_at, LooksAreToldApart, early_answered, junk_answered, frame_answered, done_and_early, answered_and_early, look_done, CallsAreToldApart}
use Rattle.std.specs.Cmp.{nat_cmp_total}
use Rattle.sl_refusals.proofs.Lookups.{put_here}
use Rattle.sl_refusals.proofs.Performs.{looks_at_root, changes_root}
use Rattle.sl_refusals.proofs.Effects.{welcomed_is_legal, root_is_there}

abbrev pub before : Volume
before = restart fence start

abbrev pub after : Volume
after = after_changes (setting (new_root 1) new_mode epoch).changes before

pub change_makes : (perform before change_root nobody epoch no_choice) ≡ (after, (setting (new_root 1) new_mode epoch).answer)
change_makes = changes_root before no_choice root_is_there (ap (seen_as before.unstable) root_is_there)

pub root_is_changed : get after.nodes 1 ≡ Some changed_root
root_is_changed = put_here nat_cmp_total _ 1 _ refl

abbrev tells : Node → Reply
tells n = reply.Getattr (Ok (attributes n))

look_before : (perform before look_at_root nobody epoch no_choice).1 ≡ tells (new_root 1)
look_before = ap (λ p. p.1) (looks_at_root before 493 (new_root 1) epoch no_choice root_is_there (ap (seen_as before.unstable) root_is_there))

look_after : (perform (perform before change_root nobody epoch no_choice).0 look_at_root nobody epoch no_choice).1 ≡ tells changed_root
look_after =
    ap (λ p. (perform p.0 look_at_root nobody epoch no_choice).1) change_makes
    ∙ ap (λ p. p.1) (looks_at_root after 448 changed_root epoch no_choice root_is_changed (ap (seen_as after.unstable) root_is_changed))

changed_is_legal : Legal start changed_meanwhile
unfolding volume_after asked any_in turn_of datagram call_header_at u32_text u32_at u64_text u64_at opaque_at opaque_text auth_at zero_at refusal_of accepted_text args_at setattr_at fh_at sattr_at optional_at part_at time_at set_time_at given_time_at args_text sattr_text set_time_text optional_text form_text
changed_is_legal = (
  ((welcomed_is_legal start, record { may = tt; at_once = λ up. tt }), record { may = tt; at_once = λ up. tt }),
  record {
    may = (
      record {
        changing = refl;
        accepted = refl;
        first = refl;
        after_arrival = inl (refl, omega arith);
        not_later = inl (refl, omega arith);
        unused = inl refl;
        kept = sym (ap (λ p. is_kept p.1) change_makes);
      },
      tt,
    );
    at_once = tt;
  },
)

at_arrival : Legal start (looked_at (new_root 1) 3)
unfolding volume_after volume_at asked any_in turn_of datagram call_header_at u32_text u32_at u64_text u64_at opaque_at opaque_text auth_at zero_at refusal_of accepted_text args_at setattr_at fh_at sattr_at optional_at part_at time_at set_time_at given_time_at args_text sattr_text set_time_text optional_text form_text
at_arrival = (
  changed_is_legal,
  record {
    may = (
      record { first = refl; is = record { accepted = refl; not_before = omega arith; not_later = omega arith; reply = sym (ap answers look_before); settled = λ ok. refl } },
      tt,
    );
    at_once = tt;
  },
)

at_change : Legal start (looked_at changed_root 5)
unfolding volume_after volume_at asked any_in turn_of datagram call_header_at u32_text u32_at u64_text u64_at opaque_at opaque_text auth_at zero_at refusal_of accepted_text args_at setattr_at fh_at sattr_at optional_at part_at time_at set_time_at given_time_at args_text sattr_text set_time_text optional_text form_text
at_change = (
  changed_is_legal,
  record {
    may = (
      record { first = refl; is = record { accepted = refl; not_before = omega arith; not_later = omega arith; reply = sym (ap answers look_after); settled = λ ok. refl } },
      tt,
    );
    at_once = tt;
  },
)

modes_differ : answers (tells (new_root 1)) ≡ answers (tells changed_root) → ⊥
unfolding u32_text u64_text accepted_text fattr_text fattr_front_text fattr_place_text fattr_times_text time_text
modes_differ same = true≢false (ap (λ (bytes : List ℕ). slice_index bytes 35 == 237) same)

of_another_event : Legal start (looked_at (new_root 1) 5) → ⊥
unfolding volume_after volume_at asked turn_of datagram call_header_at u32_text u32_at u64_text u64_at opaque_at opaque_text auth_at zero_at refusal_of accepted_text args_at setattr_at fh_at sattr_at optional_at part_at time_at set_time_at given_time_at args_text sattr_text set_time_text optional_text form_text
of_another_event legal = modes_differ (legal.1.may.0.is.reply ∙ ap answers look_after)

before_arrival : Legal start (looked_at (new_root 1) 2) → ⊥
unfolding turn_of datagram call_header_at u32_text u32_at u64_text u64_at opaque_at opaque_text auth_at zero_at refusal_of accepted_text args_at fh_at args_text form_text
before_arrival legal = absurd (omega (arith, legal.1.may.0.is.not_before))

to_come : Legal start (looked_at changed_root 7) → ⊥
unfolding turn_of datagram call_header_at u32_text u32_at u64_text u64_at opaque_at opaque_text auth_at zero_at refusal_of accepted_text args_at fh_at args_text form_text
to_come legal = absurd (omega (arith, legal.1.may.0.is.not_later))

pub looks_are_told_apart : LooksAreToldApart
looks_are_told_apart = (at_arrival, at_change, of_another_event, before_arrival, to_come)

-- ---- no call is there to reply to

early : Legal start early_answered → ⊥
unfolding turn_of datagram call_header_at u32_text u32_at u64_text opaque_at opaque_text auth_at zero_at refusal_of accepted_text args_at fh_at args_text form_text
early legal = true≢false legal.1.may.0.is.accepted

junk : Legal start junk_answered → ⊥
unfolding turn_of datagram call_header_at u32_at
junk legal = legal.1.may.1.0.is

frame : Legal start frame_answered → ⊥
unfolding turn_of
frame legal = legal.1.may.0.is

dropped_done : Legal start done_and_early → ⊥
unfolding any_in
dropped_done legal = true≢false legal.1.may.1.0.undone

dropped_answered : Legal start answered_and_early → ⊥
unfolding any_in
dropped_answered legal = true≢false legal.1.may.1.0.unanswered

no_effect : Legal start look_done → ⊥
unfolding asked turn_of datagram call_header_at u32_text u32_at u64_text opaque_at opaque_text auth_at zero_at refusal_of accepted_text args_at fh_at args_text form_text
no_effect legal = true≢false (sym legal.1.may.0.changing)

pub calls_are_told_apart : CallsAreToldApart
calls_are_told_apart = (at_arrival, early, junk, frame, dropped_done, dropped_answered, no_effect)
