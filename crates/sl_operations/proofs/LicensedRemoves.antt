-- The history of a file that is made and removed, and isn't there the second time, is licensed, by computing.
use Rattle.std.proofs.Common.{true≢false, [], ◌∷◌, refl, sym, ap, ◌∙◌}
use Rattle.sl_defs.specs.Items.{u32_text, u64_text, u32_at, u64_at, opaque_at}
use Rattle.sl_defs.specs.Parts.{optional_text, optional_at, part_at}
use Rattle.sl_defs.specs.Rpc.{call_header_at, auth_at, zero_at, refusal_of}
use Rattle.sl_defs.specs.declared.event.Event.TheVariants as event
use Rattle.sl_types.specs.Handles.{form_text}
use Rattle.sl_types.specs.declared.kind.Status.TheVariants as status
use Rattle.sl_items.specs.Reading.{fh_at, bytes_at, sattr_at, set_time_at, given_time_at, time_at}
use Rattle.sl_items.specs.Spelling.{set_time_text, sattr_text}
use Rattle.sl_calls.specs.Reading.{args_at, create_at, dir_op_at, create_how_at, create_arm_at}
use Rattle.sl_model.specs.Laws.{status_of}
use Rattle.sl_history.specs.Licensed.{Licensed, IsLicensedTurn, IsLicensedEffect, is_no_space}
use Rattle.sl_history.specs.Frames.{is_up, last_hello, last_verf}
use Rattle.sl_history.specs.Turns.{Sent, Did, Replied, turn_of}
use Rattle.sl_history.specs.Arrivals.{datagram, asked, waiting, dropped_by}
use Rattle.sl_history.specs.Volumes.{volume_after}
use Rattle.sl_examples.specs.Histories.{start}
use Rattle.sl_witness.specs.Histories.{epoch, turn, no_fileid}
use Rattle.sl_operations.specs.Histories.{remove_call, remove_reply, look_up, removed_packet, created, remove_ordered, removed, gone_asked, removed_twice}
use Rattle.sl_operations.proofs.Removing.{client_asked}
use Rattle.sl_operations.proofs.LawfulRemoves.{removes_there, finds_none_there}
use Rattle.sl_operations.proofs.LicensedFlush.{licensed_created}

-- ---- the effects

remove_licensed : IsLicensedEffect start (turn (event.Give 13) (Sent 14 removed_packet ∷ []) ∷ remove_ordered) 10 epoch no_fileid client_asked
unfolding turn_of volume_after asked datagram call_header_at u32_text u64_text u32_at u64_at opaque_at auth_at zero_at refusal_of args_at fh_at bytes_at form_text create_at dir_op_at create_how_at create_arm_at sattr_at set_time_at given_time_at time_at optional_at part_at sattr_text set_time_text optional_text
remove_licensed = record { kept = tt; no_space = λ e. absurd (true≢false (sym (sym (ap (λ r. is_no_space (status_of r.1)) removes_there) ∙ e))) }

none_licensed : IsLicensedEffect start (turn (event.Give 16) [] ∷ gone_asked) 17 epoch no_fileid client_asked
unfolding turn_of volume_after asked datagram call_header_at u32_text u64_text u32_at u64_at opaque_at auth_at zero_at refusal_of args_at fh_at bytes_at form_text create_at dir_op_at create_how_at create_arm_at sattr_at set_time_at given_time_at time_at optional_at part_at sattr_text set_time_text optional_text
none_licensed = record { kept = tt; no_space = λ e. absurd (true≢false (sym (sym (ap (λ r. is_no_space (status_of r.1)) finds_none_there) ∙ e))) }

-- ---- the turns

arrives : IsLicensedTurn start created (turn (event.Call 0 (remove_call 8 0)) (Sent 9 (look_up 10 4) ∷ []))
unfolding turn_of volume_after asked datagram call_header_at u32_text u64_text u32_at u64_at opaque_at auth_at zero_at refusal_of args_at fh_at bytes_at form_text create_at dir_op_at create_how_at create_arm_at sattr_at set_time_at given_time_at time_at optional_at part_at sattr_text set_time_text optional_text dropped_by is_up last_hello last_verf waiting
arrives = record { may = (tt, tt); dropped = refl }

removes_file : IsLicensedTurn start remove_ordered (turn (event.Give 13) (Sent 14 removed_packet ∷ Did 10 epoch no_fileid ∷ []))
unfolding turn_of volume_after asked datagram call_header_at u32_text u64_text u32_at u64_at opaque_at auth_at zero_at refusal_of args_at fh_at bytes_at form_text create_at dir_op_at create_how_at create_arm_at sattr_at set_time_at given_time_at time_at optional_at part_at sattr_text set_time_text optional_text
removes_file = record { may = (tt, (remove_licensed, tt)); dropped = refl }

arrives_again : IsLicensedTurn start removed (turn (event.Call 0 (remove_call 8 0)) (Sent 15 (look_up 17 7) ∷ []))
unfolding turn_of volume_after asked datagram call_header_at u32_text u64_text u32_at u64_at opaque_at auth_at zero_at refusal_of args_at fh_at bytes_at form_text create_at dir_op_at create_how_at create_arm_at sattr_at set_time_at given_time_at time_at optional_at part_at sattr_text set_time_text optional_text dropped_by is_up last_hello last_verf waiting
arrives_again = record { may = (tt, tt); dropped = refl }

replies_again : IsLicensedTurn start gone_asked (turn (event.Give 16) (Did 17 epoch no_fileid ∷ Replied 17 19 (remove_reply 8 status.NoEnt) ∷ []))
unfolding turn_of volume_after asked datagram call_header_at u32_text u64_text u32_at u64_at opaque_at auth_at zero_at refusal_of args_at fh_at bytes_at form_text create_at dir_op_at create_how_at create_arm_at sattr_at set_time_at given_time_at time_at optional_at part_at sattr_text set_time_text optional_text
replies_again = record { may = (none_licensed, (tt, tt)); dropped = refl }

licensed_removed : Licensed start removed
licensed_removed = (((((((licensed_created, arrives), record { may = (tt, tt); dropped = refl }), record { may = (tt, tt); dropped = refl }), record { may = (tt, tt); dropped = refl }), record { may = (tt, tt); dropped = refl }), removes_file), record { may = (tt, tt); dropped = refl })

pub a_removal_is_licensed : Licensed start removed_twice
a_removal_is_licensed = (((licensed_removed, arrives_again), record { may = (tt, tt); dropped = refl }), replies_again)
