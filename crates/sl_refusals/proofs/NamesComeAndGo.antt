-- A file is made and removed, and made and removed again: that is legal, by computing.
use Rattle.std.proofs.Common.{◌≡◌, ℕ, refl, sym, ap, ◌∙◌, ◌⊎◌, Option, Some, None, inl, inr, true≢false, is_some, arith}
use Rattle.std.specs.Cmp.{nat_cmp_total}
use Rattle.std.specs.FinMap.{get, insert, gets}
use Rattle.sl_defs.specs.Items.{u32_text, u64_text, u32_at, u64_at, opaque_at, opaque_text}
use Rattle.sl_defs.specs.Parts.{optional_at, part_at, optional_text}
use Rattle.sl_defs.specs.Rpc.{call_header_at, auth_at, zero_at, refusal_of, accepted_text}
use Rattle.sl_types.specs.Handles.{form_text}
use Rattle.sl_items.specs.Reading.{fh_at, bytes_at, sattr_at, set_time_at, given_time_at}
use Rattle.sl_items.specs.Spelling.{sattr_text, set_time_text}
use Rattle.sl_calls.specs.Reading.{args_at, create_at, dir_op_at, create_how_at, create_arm_at}
use Rattle.sl_calls.specs.Args.{args_text, dir_op_text, create_how_text}
use Rattle.sl_model.specs.Perform.{fresh}
use Rattle.sl_history.specs.Turns.{turn_of}
use Rattle.sl_history.specs.Arrivals.{datagram, asked}
use Rattle.sl_history.specs.Volumes.{volume_after, effect}
use Rattle.sl_history.specs.Legal.{Legal, any_in, is_kept}
use Rattle.sl_examples.specs.Histories.{start, welcomed}
use Rattle.sl_refusals.specs.Packets.{answers}
use Rattle.sl_refusals.specs.Sequences.{made_as, removed, NamesComeAndGo}
use Rattle.sl_refusals.proofs.Lookups.{put_here, put_past}
use Rattle.sl_refusals.proofs.Effects.{welcomed_is_legal}
use Rattle.sl_refusals.proofs.Sequences.{v0, v1, v2, first_made, first_removed, second_made, second_removed}

-- ---- which fileids were used

two_is_unused : get start.used 2 ≡ None
unfolding fresh
two_is_unused = grind (arith, gets)

three_is_unused : get start.used 3 ≡ None
unfolding fresh
three_is_unused = grind (arith, gets)

two_is_used : get v2.used 2 ≡ Some tt
two_is_used = put_past nat_cmp_total v1.used 1 tt 2 _ refl (put_here nat_cmp_total (insert v0.used 1 tt) 2 tt refl)

three_is_left : get v2.used 3 ≡ None
three_is_left =
    put_past nat_cmp_total v1.used 1 tt 3 _ refl
    (put_past nat_cmp_total (insert v0.used 1 tt) 2 tt 3 _ refl (put_past nat_cmp_total v0.used 1 tt 3 _ refl three_is_unused))

-- ---- the history

once : Legal start (made_as welcomed 2)
unfolding effect volume_after asked any_in turn_of datagram call_header_at u32_text u32_at u64_text u64_at opaque_at opaque_text auth_at zero_at refusal_of accepted_text args_at create_at fh_at bytes_at sattr_at optional_at part_at dir_op_at create_how_at create_arm_at set_time_at given_time_at args_text dir_op_text create_how_text sattr_text set_time_text optional_text form_text
once = (
  (welcomed_is_legal start, record { may = tt; at_once = λ up. tt }),
  record {
    may = (
      record {
        changing = refl;
        accepted = refl;
        first = refl;
        after_arrival = inl (refl, omega arith);
        not_later = inl (refl, omega arith);
        unused = inr two_is_unused;
        kept = sym (ap (λ p. is_kept p.1) first_made);
      },
      (record { first = refl; is = record { event = refl; reply = sym (ap (λ p. answers p.1) first_made) } }, tt),
    );
    at_once = tt;
  },
)

once_removed : Legal start (removed (made_as welcomed 2))
unfolding effect volume_after asked any_in turn_of datagram call_header_at u32_text u32_at u64_text u64_at opaque_at opaque_text auth_at zero_at refusal_of accepted_text args_at create_at fh_at bytes_at sattr_at optional_at part_at dir_op_at create_how_at create_arm_at set_time_at given_time_at args_text dir_op_text create_how_text sattr_text set_time_text optional_text form_text
once_removed = (
  (once, record { may = tt; at_once = λ up. tt }),
  record {
    may = (
      record {
        changing = refl;
        accepted = refl;
        first = refl;
        after_arrival = inl (refl, omega arith);
        not_later = inl (refl, omega arith);
        unused = inl refl;
        kept = sym (ap (λ p. is_kept p.1) first_removed);
      },
      (record { first = refl; is = record { event = refl; reply = sym (ap (λ p. answers p.1) first_removed) } }, tt),
    );
    at_once = tt;
  },
)

twice : Legal start (made_as (removed (made_as welcomed 2)) 3)
unfolding effect volume_after asked any_in turn_of datagram call_header_at u32_text u32_at u64_text u64_at opaque_at opaque_text auth_at zero_at refusal_of accepted_text args_at create_at fh_at bytes_at sattr_at optional_at part_at dir_op_at create_how_at create_arm_at set_time_at given_time_at args_text dir_op_text create_how_text sattr_text set_time_text optional_text form_text
twice = (
  (once_removed, record { may = tt; at_once = λ up. tt }),
  record {
    may = (
      record {
        changing = refl;
        accepted = refl;
        first = refl;
        after_arrival = inl (refl, omega arith);
        not_later = inl (refl, omega arith);
        unused = inr (ap (λ p. get p.0.used 3) first_removed ∙ three_is_left);
        kept = sym (ap (λ p. is_kept p.1) second_made);
      },
      (record { first = refl; is = record { event = refl; reply = sym (ap (λ p. answers p.1) second_made) } }, tt),
    );
    at_once = tt;
  },
)

twice_removed : Legal start (removed (made_as (removed (made_as welcomed 2)) 3))
unfolding effect volume_after asked any_in turn_of datagram call_header_at u32_text u32_at u64_text u64_at opaque_at opaque_text auth_at zero_at refusal_of accepted_text args_at create_at fh_at bytes_at sattr_at optional_at part_at dir_op_at create_how_at create_arm_at set_time_at given_time_at args_text dir_op_text create_how_text sattr_text set_time_text optional_text form_text
twice_removed = (
  (twice, record { may = tt; at_once = λ up. tt }),
  record {
    may = (
      record {
        changing = refl;
        accepted = refl;
        first = refl;
        after_arrival = inl (refl, omega arith);
        not_later = inl (refl, omega arith);
        unused = inl refl;
        kept = sym (ap (λ p. is_kept p.1) second_removed);
      },
      (record { first = refl; is = record { event = refl; reply = sym (ap (λ p. answers p.1) second_removed) } }, tt),
    );
    at_once = tt;
  },
)

is_new : (f : ℕ) (used : Option (Unit {0})) → f ≡ 2 → used ≡ Some tt → (f ≡ 0) ⊎ (used ≡ None) → ⊥
is_new f used two is (inl zero) = absurd (omega (arith, two, zero))
is_new f used two is (inr unused) = true≢false (ap is_some (sym is ∙ unused))

the_same : Legal start (made_as (removed (made_as welcomed 2)) 2) → ⊥
unfolding effect volume_after asked any_in turn_of datagram call_header_at u32_text u32_at u64_text u64_at opaque_at opaque_text auth_at zero_at refusal_of accepted_text args_at create_at fh_at bytes_at sattr_at optional_at part_at dir_op_at create_how_at create_arm_at set_time_at given_time_at args_text dir_op_text create_how_text sattr_text set_time_text optional_text form_text
the_same legal = is_new 2 _ refl (ap (λ p. get p.0.used 2) first_removed ∙ two_is_used) legal.1.may.0.unused

pub names_come_and_go : NamesComeAndGo
names_come_and_go = (twice_removed, the_same)
