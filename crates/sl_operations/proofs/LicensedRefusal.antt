-- The history of a flush that is refused is legal and licensed, by computing: the stop lets the write verifier rise.
use Rattle.std.proofs.Common.{◌<◌, subst, lit<, [], ◌∷◌, refl, sym, ap}
use Rattle.sl_defs.specs.Items.{u32_text, u64_text, u32_at, u64_at, opaque_at}
use Rattle.sl_defs.specs.Parts.{optional_text, optional_at, part_at}
use Rattle.sl_defs.specs.Rpc.{call_header_at, auth_at, zero_at, refusal_of}
use Rattle.sl_defs.specs.declared.event.Event.TheVariants as event
use Rattle.sl_types.specs.Handles.{form_text, form_at, magic_at, handle_of}
use Rattle.sl_items.specs.Reading.{fh_at, bytes_at, sattr_at, set_time_at, given_time_at, time_at, stable_at}
use Rattle.sl_items.specs.Spelling.{set_time_text, sattr_text}
use Rattle.sl_calls.specs.Reading.{args_at, create_at, dir_op_at, create_how_at, create_arm_at, write_at, commit_at}
use Rattle.sl_model.specs.Gathered.{is_unstable}
use Rattle.sl_history.specs.Licensed.{Licensed, IsLicensedTurn, IsRenewal, IsFlushRequest, may_be_lost}
use Rattle.sl_history.specs.Frames.{is_up, last_hello, last_verf}
use Rattle.sl_history.specs.Turns.{Sent, Verf, History, turn_of}
use Rattle.sl_history.specs.Arrivals.{datagram, asked, waiting, dropped_by}
use Rattle.sl_history.specs.Volumes.{volume_after}
use Rattle.sl_history.specs.Legal.{Legal, IsLegalTurn}
use Rattle.sl_examples.specs.Histories.{start}
use Rattle.sl_witness.specs.Histories.{turn}
use Rattle.sl_operations.specs.Histories.{commit_call, flush, stopped, next_fence, released, welcomed_again, next_welcome}
use Rattle.sl_operations.specs.Runs.{ARefusalIsLicensed}
use Rattle.sl_operations.proofs.LawfulFlush.{writes_there, legal_buffered}
use Rattle.sl_operations.proofs.LicensedFlush.{licensed_buffered}

-- ---- the COMMIT asks for a flush

commit_arrives : IsLegalTurn start stopped (turn (event.Call 0 (commit_call 9 0)) (Sent 13 (flush 17) ∷ []))
unfolding turn_of volume_after asked datagram call_header_at u32_text u64_text u32_at u64_at opaque_at auth_at zero_at refusal_of args_at fh_at bytes_at form_text create_at commit_at dir_op_at create_how_at create_arm_at sattr_at set_time_at given_time_at time_at optional_at part_at sattr_text set_time_text optional_text stable_at write_at
commit_arrives = record { may = (tt, tt); at_once = λ up. tt }

flush_is_for_commit : IsFlushRequest start (turn (event.Call 0 (commit_call 9 0)) (Sent 13 (flush 17) ∷ []) ∷ stopped) 17 2
unfolding turn_of volume_after asked datagram call_header_at u32_text u64_text u32_at u64_at opaque_at auth_at zero_at refusal_of args_at fh_at bytes_at form_text create_at commit_at dir_op_at create_how_at create_arm_at sattr_at set_time_at given_time_at time_at optional_at part_at sattr_text set_time_text optional_text stable_at write_at form_at magic_at handle_of
flush_is_for_commit = record { unstable = ap (λ r. is_unstable 2 r.0.unstable) writes_there; call = refl }

commit_licensed : IsLicensedTurn start stopped (turn (event.Call 0 (commit_call 9 0)) (Sent 13 (flush 17) ∷ []))
unfolding turn_of volume_after asked datagram call_header_at u32_text u64_text u32_at u64_at opaque_at auth_at zero_at refusal_of args_at fh_at bytes_at form_text create_at commit_at dir_op_at create_how_at create_arm_at sattr_at set_time_at given_time_at time_at optional_at part_at sattr_text set_time_text optional_text stable_at write_at dropped_by is_up last_hello last_verf waiting
commit_licensed = record { may = (λ new. flush_is_for_commit, tt); dropped = refl }

-- ---- the verifier rises

abbrev before_welcome : History
before_welcome = turn (event.Give 23) (Sent 24 next_welcome ∷ []) ∷ turn (event.Give 22) [] ∷ turn (event.Give 21) [] ∷ released

rises : IsRenewal start (turn (event.Give 24) [] ∷ before_welcome) next_fence
unfolding turn_of volume_after asked datagram call_header_at u32_text u64_text u32_at u64_at opaque_at auth_at zero_at refusal_of args_at fh_at bytes_at form_text create_at commit_at dir_op_at create_how_at create_arm_at sattr_at set_time_at given_time_at time_at optional_at part_at sattr_text set_time_text optional_text stable_at write_at may_be_lost is_up
rises = record { greater = subst (λ r. r.0.verifier < next_fence) (sym writes_there) (lit< tt); lost = refl }

renews : IsLicensedTurn start before_welcome (turn (event.Give 24) (Verf next_fence ∷ []))
renews = record { may = (rises, tt); dropped = refl }

-- ---- the turns

legal : Legal start welcomed_again
legal = (((((((((((((((legal_buffered, record { may = tt; at_once = tt }), record { may = tt; at_once = tt }), commit_arrives), record { may = (tt, (tt, tt)); at_once = tt }), record { may = (tt, tt); at_once = tt }), record { may = (tt, (tt, (tt, tt))); at_once = tt }), record { may = (tt, tt); at_once = tt }), record { may = tt; at_once = tt }), record { may = (tt, tt); at_once = tt }), record { may = (tt, tt); at_once = tt }), record { may = (tt, tt); at_once = tt }), record { may = tt; at_once = tt }), record { may = tt; at_once = tt }), record { may = (tt, tt); at_once = tt }), record { may = (tt, tt); at_once = tt })

licensed : Licensed start welcomed_again
licensed = (((((((((((((((licensed_buffered, record { may = tt; dropped = refl }), record { may = tt; dropped = refl }), commit_licensed), record { may = (tt, (tt, tt)); dropped = refl }), record { may = (tt, tt); dropped = refl }), record { may = (tt, (tt, (tt, tt))); dropped = refl }), record { may = (tt, tt); dropped = refl }), record { may = tt; dropped = refl }), record { may = (tt, tt); dropped = refl }), record { may = (tt, tt); dropped = refl }), record { may = (tt, tt); dropped = refl }), record { may = tt; dropped = refl }), record { may = tt; dropped = refl }), record { may = (tt, tt); dropped = refl }), renews)

pub a_refusal_is_licensed : ARefusalIsLicensed
a_refusal_is_licensed = (legal, licensed)
