-- The history of an unstable WRITE and a COMMIT is licensed, by computing.
use Rattle.std.proofs.Common.{◌≤◌, true, lit<, true≢false, [], ◌∷◌, refl, sym, ap, ◌∙◌, arith}
use Rattle.sl_defs.specs.Items.{u32_text, u64_text, u32_at, u64_at, opaque_at}
use Rattle.sl_defs.specs.Parts.{optional_text, optional_at, part_at}
use Rattle.sl_defs.specs.Rpc.{call_header_at, auth_at, zero_at, refusal_of}
use Rattle.sl_defs.specs.declared.event.Event.TheVariants as event
use Rattle.sl_types.specs.Handles.{form_text, form_at, magic_at, handle_of}
use Rattle.sl_types.specs.declared.call.Stable.TheVariants as stable
use Rattle.sl_items.specs.Reading.{fh_at, bytes_at, sattr_at, set_time_at, given_time_at, time_at, stable_at}
use Rattle.sl_items.specs.Spelling.{set_time_text, sattr_text}
use Rattle.sl_calls.specs.Reading.{args_at, create_at, dir_op_at, create_how_at, create_arm_at, write_at, commit_at}
use Rattle.sl_model.specs.Gathered.{is_unstable}
use Rattle.sl_model.specs.Laws.{status_of}
use Rattle.sl_history.specs.Licensed.{Licensed, IsLicensedTurn, IsLicensedEffect, IsFlush, IsFlushRequest, is_no_space, may_be_lost, flushes, requests_given}
use Rattle.sl_history.specs.Frames.{frame, is_up, last_hello, last_verf}
use Rattle.sl_model.specs.Perform.{fresh}
use Rattle.sl_history.specs.Turns.{Sent, Did, Flush, Verf, Replied, turn_of}
use Rattle.sl_history.specs.Arrivals.{datagram, asked, waiting, dropped_by}
use Rattle.sl_history.specs.Volumes.{volume_after}
use Rattle.sl_history.specs.Legal.{no_choice}
use Rattle.sl_examples.specs.Histories.{start}
use Rattle.sl_witness.specs.Histories.{epoch, fence, turn, greeted, welcomed}
use Rattle.sl_operations.specs.Histories.{create_call, created_packet, file_two, create_asked, ask_name, write_call, unstable_reply, commit_call, ask_file, flush, flush_decided, apply, created, buffered, flushed}
use Rattle.sl_operations.proofs.Creating as creating
use Rattle.sl_operations.proofs.Writing.{the_write}
use Rattle.sl_operations.proofs.Writing as writing
use Rattle.sl_operations.proofs.Lawful.{create_performed}
use Rattle.sl_operations.proofs.LawfulFlush.{written, before_flush, writes_there}

-- ---- the effects

one_at_most : 1 ≤ 1
one_at_most = omega arith

create_licensed : IsLicensedEffect start (turn (event.Give 7) (Sent 8 created_packet ∷ []) ∷ create_asked) 3 epoch file_two creating.client_asked
unfolding turn_of volume_after asked datagram call_header_at u32_text u64_text u32_at u64_at opaque_at auth_at zero_at refusal_of args_at fh_at bytes_at form_text create_at commit_at dir_op_at create_how_at create_arm_at sattr_at set_time_at given_time_at time_at optional_at part_at sattr_text set_time_text optional_text stable_at write_at fresh
create_licensed = record { kept = tt; no_space = λ e. absurd (true≢false (sym (sym (ap (λ r. is_no_space (status_of r.1)) create_performed) ∙ e))) }

write_licensed : IsLicensedEffect start (turn (event.Give 12) [] ∷ written) 10 epoch no_choice (writing.write_asked stable.Unstable)
unfolding turn_of volume_after asked datagram call_header_at u32_text u64_text u32_at u64_at opaque_at auth_at zero_at refusal_of args_at fh_at bytes_at form_text create_at commit_at dir_op_at create_how_at create_arm_at sattr_at set_time_at given_time_at time_at optional_at part_at sattr_text set_time_text optional_text stable_at write_at
write_licensed = record {
  kept = λ e. absurd (true≢false (sym e));
  no_space = λ e. absurd (true≢false (sym (sym (ap (λ r. is_no_space (status_of r.1)) writes_there) ∙ e)));
}

-- ---- the flush

pub flush_is_for_commit : IsFlushRequest start (turn (event.Call 0 (commit_call 9 0)) (Sent 13 (flush 15) ∷ []) ∷ buffered) 15 2
unfolding turn_of volume_after asked datagram call_header_at u32_text u64_text u32_at u64_at opaque_at auth_at zero_at refusal_of args_at fh_at bytes_at form_text create_at commit_at dir_op_at create_how_at create_arm_at sattr_at set_time_at given_time_at time_at optional_at part_at sattr_text set_time_text optional_text stable_at write_at form_at magic_at handle_of
flush_is_for_commit = record { unstable = ap (λ r. is_unstable 2 r.0.unstable) writes_there; call = refl }

flush_is_asked_for : IsFlush start (turn (event.Give 17) (Sent 18 (flush_decided true) ∷ Sent 19 (apply 16) ∷ Sent 20 (apply 32) ∷ []) ∷ before_flush) 2
unfolding turn_of volume_after asked datagram call_header_at u32_text u64_text u32_at u64_at opaque_at auth_at zero_at refusal_of args_at fh_at bytes_at form_text create_at commit_at dir_op_at create_how_at create_arm_at sattr_at set_time_at given_time_at time_at optional_at part_at sattr_text set_time_text optional_text stable_at write_at flushes requests_given frame is_up
flush_is_asked_for = record { unstable = ap (λ r. is_unstable 2 r.0.unstable) writes_there; requested = one_at_most }

-- ---- the turns

welcomes : IsLicensedTurn start greeted (turn (event.Give 2) (Verf fence ∷ []))
unfolding volume_after may_be_lost fresh
welcomes = record { may = (record { greater = lit< tt; lost = refl }, tt); dropped = refl }

arrives : IsLicensedTurn start welcomed (turn (event.Call 0 (create_call 7 0)) (Sent 3 ask_name ∷ []))
unfolding turn_of volume_after asked datagram call_header_at u32_text u64_text u32_at u64_at opaque_at auth_at zero_at refusal_of args_at fh_at bytes_at form_text create_at commit_at dir_op_at create_how_at create_arm_at sattr_at set_time_at given_time_at time_at optional_at part_at sattr_text set_time_text optional_text stable_at write_at dropped_by is_up last_hello last_verf waiting
arrives = record { may = (tt, tt); dropped = refl }

makes : IsLicensedTurn start create_asked (turn (event.Give 7) (Sent 8 created_packet ∷ Did 3 epoch file_two ∷ []))
unfolding turn_of volume_after asked datagram call_header_at u32_text u64_text u32_at u64_at opaque_at auth_at zero_at refusal_of args_at fh_at bytes_at form_text create_at commit_at dir_op_at create_how_at create_arm_at sattr_at set_time_at given_time_at time_at optional_at part_at sattr_text set_time_text optional_text stable_at write_at
makes = record { may = (tt, (create_licensed, tt)); dropped = refl }

write_arrives : IsLicensedTurn start created (turn (event.Call 0 (write_call 8 0 0)) (Sent 9 ask_file ∷ []))
unfolding turn_of volume_after asked datagram call_header_at u32_text u64_text u32_at u64_at opaque_at auth_at zero_at refusal_of args_at fh_at bytes_at form_text create_at commit_at dir_op_at create_how_at create_arm_at sattr_at set_time_at given_time_at time_at optional_at part_at sattr_text set_time_text optional_text stable_at write_at dropped_by is_up last_hello last_verf waiting
write_arrives = record { may = (tt, tt); dropped = refl }

buffers : IsLicensedTurn start written (turn (event.Give 12) (Did 10 epoch no_choice ∷ Replied 10 14 unstable_reply ∷ []))
unfolding turn_of volume_after asked datagram call_header_at u32_text u64_text u32_at u64_at opaque_at auth_at zero_at refusal_of args_at fh_at bytes_at form_text create_at commit_at dir_op_at create_how_at create_arm_at sattr_at set_time_at given_time_at time_at optional_at part_at sattr_text set_time_text optional_text stable_at write_at
buffers = record { may = (write_licensed, (tt, tt)); dropped = refl }

commit_arrives : IsLicensedTurn start buffered (turn (event.Call 0 (commit_call 9 0)) (Sent 13 (flush 15) ∷ []))
unfolding turn_of volume_after asked datagram call_header_at u32_text u64_text u32_at u64_at opaque_at auth_at zero_at refusal_of args_at fh_at bytes_at form_text create_at commit_at dir_op_at create_how_at create_arm_at sattr_at set_time_at given_time_at time_at optional_at part_at sattr_text set_time_text optional_text stable_at write_at dropped_by is_up last_hello last_verf waiting
commit_arrives = record { may = (λ new. flush_is_for_commit, tt); dropped = refl }

decides : IsLicensedTurn start before_flush (turn (event.Give 17) (Sent 18 (flush_decided true) ∷ Sent 19 (apply 16) ∷ Sent 20 (apply 32) ∷ Flush 2 ∷ []))
decides = record { may = (tt, (tt, (tt, (flush_is_asked_for, tt)))); dropped = refl }

licensed_welcomed : Licensed start welcomed
licensed_welcomed = (((tt, record { may = (tt, tt); dropped = refl }), record { may = (tt, tt); dropped = refl }), welcomes)

pub licensed_created : Licensed start created
licensed_created = (((((((licensed_welcomed, arrives), record { may = (tt, tt); dropped = refl }), record { may = (tt, tt); dropped = refl }), record { may = (tt, tt); dropped = refl }), record { may = (tt, tt); dropped = refl }), makes), record { may = (tt, tt); dropped = refl })

pub licensed_buffered : Licensed start buffered
licensed_buffered = (((((licensed_created, write_arrives), record { may = (tt, tt); dropped = refl }), record { may = (tt, tt); dropped = refl }), record { may = (tt, tt); dropped = refl }), buffers)

pub a_flush_is_licensed : Licensed start flushed
a_flush_is_licensed = (((((((((((licensed_buffered, commit_arrives), record { may = (tt, (tt, tt)); dropped = refl }), record { may = (tt, tt); dropped = refl }), record { may = (tt, tt); dropped = refl }), record { may = tt; dropped = refl }), decides), record { may = (tt, tt); dropped = refl }), record { may = (tt, tt); dropped = refl }), record { may = (tt, tt); dropped = refl }), record { may = tt; dropped = refl }), record { may = tt; dropped = refl })
