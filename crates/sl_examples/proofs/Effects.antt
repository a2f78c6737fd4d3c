-- Legal histories and others, by computing: effects.
use Rattle.std.proofs.Common.{◌≡◌, ℕ, refl, sym, [], ◌∷◌, true, false, true≢false}
use Rattle.sl_defs.specs.Items.{u32_text, u32_at, u64_at, opaque_at}
use Rattle.sl_defs.specs.Parts.{optional_at, part_at}
use Rattle.sl_defs.specs.Rpc.{call_header_at, auth_at, zero_at, refusal_of, accepted_text}
use Rattle.sl_items.specs.Reading.{fh_at, bytes_at, sattr_at, set_time_at, given_time_at}
use Rattle.sl_calls.specs.Reading.{args_at, create_at, dir_op_at, create_how_at, create_arm_at}
use Rattle.sl_history.specs.Turns.{turn_of}
use Rattle.sl_history.specs.Arrivals.{datagram, asked}
use Rattle.sl_history.specs.Volumes.{effect}
use Rattle.sl_history.specs.Legal.{Legal, any_in}
use Rattle.sl_examples.specs.Histories.{start, done_twice, replied_for_nothing, done_though_dropped}
use Rattle.sl_examples.specs.Claims.{EffectsAreToldApart}

twice : Legal start done_twice → ⊥
unfolding asked any_in turn_of datagram call_header_at u32_text u32_at u64_at opaque_at auth_at zero_at refusal_of accepted_text args_at create_at fh_at bytes_at sattr_at optional_at part_at dir_op_at create_how_at create_arm_at set_time_at given_time_at
twice legal = true≢false legal.1.may.1.0.first

dropped : Legal start done_though_dropped → ⊥
unfolding asked turn_of datagram call_header_at u32_text u32_at u64_at opaque_at auth_at zero_at refusal_of accepted_text args_at create_at fh_at bytes_at sattr_at optional_at part_at dir_op_at create_how_at create_arm_at set_time_at given_time_at
dropped legal = true≢false legal.1.may.0.accepted

early : Legal start replied_for_nothing → ⊥
unfolding effect turn_of datagram call_header_at u32_text u32_at u64_at opaque_at auth_at zero_at refusal_of accepted_text args_at create_at fh_at bytes_at sattr_at optional_at part_at dir_op_at create_how_at create_arm_at set_time_at given_time_at
early legal = legal.1.may.0.is

pub effects_are_told_apart : EffectsAreToldApart
effects_are_told_apart = (twice, dropped, early)
