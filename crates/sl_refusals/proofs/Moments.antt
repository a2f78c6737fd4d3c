-- Legal effects and others, by computing: their moments.
use Rattle.std.proofs.Common.{◌≡◌, ℕ, ◌+◌, ◌<◌, ◌≤◌, ◌⊎◌, refl, inl, inr, arith}
use Rattle.sl_defs.specs.Items.{u32_text, u64_text, u32_at, u64_at, opaque_at, opaque_text}
use Rattle.sl_defs.specs.Parts.{optional_at, part_at, optional_text}
use Rattle.sl_defs.specs.Rpc.{call_header_at, auth_at, zero_at, refusal_of, accepted_text}
use Rattle.sl_types.specs.Handles.{form_text}
use Rattle.sl_items.specs.Reading.{fh_at, bytes_at, sattr_at, set_time_at, given_time_at}
use Rattle.sl_items.specs.Spelling.{sattr_text, set_time_text}
use Rattle.sl_calls.specs.Reading.{args_at, create_at, dir_op_at, create_how_at, create_arm_at}
use Rattle.sl_calls.specs.Args.{args_text, dir_op_text, create_how_text}
use Rattle.sl_history.specs.Turns.{turn_of}
use Rattle.sl_history.specs.Arrivals.{datagram, asked}
use Rattle.sl_history.specs.Volumes.{volume_after}
use Rattle.sl_history.specs.Legal.{Legal, any_in}
use Rattle.sl_examples.specs.Histories.{start, file_two}
use Rattle.sl_refusals.specs.Effects.{done_at, second, MomentsAreToldApart}
use Rattle.sl_refusals.proofs.Effects.{welcomed_is_legal, two_is_unused, create_is_not_kept}

-- ---- moments

in_time : Legal start (done_at 6)
unfolding volume_after asked any_in turn_of datagram call_header_at u32_text u32_at u64_text u64_at opaque_at opaque_text auth_at zero_at refusal_of accepted_text args_at create_at fh_at bytes_at sattr_at optional_at part_at dir_op_at create_how_at create_arm_at set_time_at given_time_at args_text dir_op_text create_how_text sattr_text set_time_text optional_text form_text
in_time = (
  (welcomed_is_legal start, record { may = tt; at_once = λ up. tt }),
  record {
    may = (
      record {
        changing = refl;
        accepted = refl;
        first = refl;
        after_arrival = inr (omega arith);
        not_later = inr (omega arith);
        unused = inr two_is_unused;
        kept = create_is_not_kept (second 6) file_two refl;
      },
      tt,
    );
    at_once = tt;
  },
)

is_after : (m n : ℕ) → n < m → ((m ≡ n) × (0 ≤ 0)) ⊎ (m + 1 ≤ n) → ⊥
is_after m n less (inl same) = absurd (omega (arith, less, same.0))
is_after m n less (inr more) = absurd (omega (arith, less, more))

too_soon : Legal start (done_at 4) → ⊥
unfolding asked turn_of datagram call_header_at u32_text u32_at u64_text u64_at opaque_at opaque_text auth_at zero_at refusal_of accepted_text args_at create_at fh_at bytes_at sattr_at optional_at part_at dir_op_at create_how_at create_arm_at set_time_at given_time_at args_text dir_op_text create_how_text sattr_text set_time_text optional_text form_text
too_soon legal = is_after 5 4 (omega arith) legal.1.may.0.after_arrival

too_late : Legal start (done_at 8) → ⊥
unfolding asked turn_of datagram call_header_at u32_text u32_at u64_text u64_at opaque_at opaque_text auth_at zero_at refusal_of accepted_text args_at create_at fh_at bytes_at sattr_at optional_at part_at dir_op_at create_how_at create_arm_at set_time_at given_time_at args_text dir_op_text create_how_text sattr_text set_time_text optional_text form_text
too_late legal = is_after 8 7 (omega arith) legal.1.may.0.not_later

pub moments_are_told_apart : MomentsAreToldApart
moments_are_told_apart = (in_time, too_soon, too_late)
