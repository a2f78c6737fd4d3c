-- The history of a stable WRITE is legal, by computing.
use Rattle.std.proofs.Common.{◌≡◌, ℕ, ◌≤◌, [], ◌∷◌, Some, None, Ok, refl, sym, ap, ◌∙◌, inl, inr, arith}
use Rattle.std.specs.FinMap.{get, get-empty}
use Rattle.sl_defs.specs.Items.{u32_text, u64_text, u32_at, u64_at, opaque_at}
use Rattle.sl_defs.specs.Parts.{optional_text, optional_at, part_at}
use Rattle.sl_defs.specs.Rpc.{call_header_at, auth_at, zero_at, refusal_of}
use Rattle.sl_defs.specs.declared.event.Event.TheVariants as event
use Rattle.sl_frames.specs.declared.frame.Frame.{Frame}
use Rattle.sl_types.specs.Handles.{form_text, form_at, magic_at, handle_of}
use Rattle.sl_types.specs.declared.call.Stable.TheVariants as stable
use Rattle.sl_rpc.specs.Heads.{nobody}
use Rattle.sl_items.specs.Reading.{fh_at, bytes_at, sattr_at, set_time_at, given_time_at, time_at, stable_at}
use Rattle.sl_items.specs.Spelling.{set_time_text, sattr_text}
use Rattle.sl_calls.specs.Reading.{args_at, create_at, dir_op_at, create_how_at, create_arm_at, write_at}
use Rattle.sl_model.specs.Plan.{Plan, Verifier, Sight, run, ◌>>=◌}
use Rattle.sl_model.specs.Volume.{Volume, restart, after_changes, seen, seen_as, sight}
use Rattle.sl_model.specs.Perform.{fresh, perform, ends, new_root}
use Rattle.sl_model.specs.Procedures.{plan, fault}
use Rattle.sl_model.specs.Checks.{checked}
use Rattle.sl_model.specs.Looking.{Outcome}
use Rattle.sl_model.specs.Changing as model
use Rattle.sl_history.specs.Turns.{Sent, Did, Replied, History, turn_of}
use Rattle.sl_history.specs.Arrivals.{datagram, asked, answer_to}
use Rattle.sl_history.specs.Volumes.{volume_after, effect}
use Rattle.sl_history.specs.Legal.{Legal, IsLegalTurn, IsEffect, IsReply, is_kept, any_in}
use Rattle.sl_examples.specs.Histories.{start}
use Rattle.sl_witness.specs.Histories.{epoch, fence, turn, welcomed}
use Rattle.sl_witness.proofs.Maps.{got_here, got_past, got_none}
use Rattle.sl_witness.proofs.Packets.{run_look, run_see, run_done}
use Rattle.sl_operations.specs.Histories.{name, new_node, written_bytes, create_call, create_answer, create_reply, write_call, write_answer, write_reply, created_packet, file_two, kept_write, create_asked, file_made, created, ask_name, ask_file, decided, apply, started, granted, agreed, finished}
use Rattle.sl_operations.proofs.Creating.{the_create, outcome, run_find, run_want}
use Rattle.sl_operations.proofs.Creating as creating
use Rattle.sl_operations.proofs.Writing.{the_write, write_asked}

-- ---- the volumes

-- at the Welcome
abbrev pub v0 : Volume
v0 = restart fence start

-- with the file
abbrev pub v1 : Volume
v1 = after_changes outcome.changes v0

abbrev pub wrote : Outcome
wrote = model.stable_write new_node 0 written_bytes fence epoch

-- with its bytes
abbrev pub v2 : Volume
v2 = after_changes wrote.changes v1

pub has_root : get v0.nodes 1 ≡ Some (new_root 1)
unfolding fresh
has_root = got_here _ 1 _

pub has_no_name : get v0.names (1, name) ≡ None
unfolding fresh
has_no_name = get-empty _ (1, name)

creates : run (sight v0) (plan (the_create 0) nobody epoch file_two) ≡ Ok outcome
unfolding ◌>>=◌ checked model.create_at u32_text u64_text u32_at u64_at zero_at form_text form_at magic_at handle_of
creates = run_want (sight v0) _ _ ∙ (run_look (sight v0) 1 _ _ has_root ∙ (run_find (sight v0) 1 name _ _ has_no_name ∙ run_done (sight v0) outcome))

pub create_performed : perform v0 (the_create 0) nobody epoch file_two ≡ (v1, create_answer 0)
unfolding perform
create_performed = ap (ends v0 (fault (the_create 0))) creates

pub has_file : get v1.nodes 2 ≡ Some new_node
unfolding fresh
has_file = got_here _ 2 _

pub sees_file : seen v1 2 ≡ Some new_node
unfolding fresh
sees_file = ap (seen_as []) has_file

pub run_verifier : {A : Type 0} (s : Sight) (k : ℕ → Plan A) → run s (Verifier k) ≡ run s (k s.verifier)
unfolding run
run_verifier s k = refl

writes : run (sight v1) (plan (the_write 0 stable.FileSync) nobody epoch kept_write) ≡ Ok wrote
unfolding ◌>>=◌ model.write_in u32_text u64_text u32_at u64_at zero_at form_text form_at magic_at handle_of
writes = run_look (sight v1) 2 _ _ has_file ∙ (run_see (sight v1) 2 _ _ sees_file ∙ (run_verifier (sight v1) _ ∙ run_done (sight v1) wrote))

pub write_performed : perform v1 (the_write 0 stable.FileSync) nobody epoch kept_write ≡ (v2, write_answer)
unfolding perform
write_performed = ap (ends v1 (fault (the_write 0 stable.FileSync))) writes

-- ---- the effects and replies

pub at_once : 0 ≤ 0
at_once = omega arith

create_done : IsEffect start (turn (event.Give 7) (Sent 8 created_packet ∷ []) ∷ create_asked) epoch 3 epoch file_two creating.client_asked
unfolding any_in turn_of volume_after asked datagram call_header_at u32_text u64_text u32_at u64_at opaque_at auth_at zero_at refusal_of args_at fh_at bytes_at form_text create_at dir_op_at create_how_at create_arm_at sattr_at set_time_at given_time_at time_at optional_at part_at sattr_text set_time_text optional_text fresh
create_done = record {
  changing = refl;
  accepted = refl;
  first = refl;
  after_arrival = inl (refl, at_once);
  not_later = inl (refl, at_once);
  unused = inr (got_past _ 1 tt 2 None refl (got_none 2));
  kept = sym (ap (λ r. is_kept r.1) create_performed);
}

create_replied : IsReply start (turn (event.Give 8) [] ∷ file_made) epoch 3 8 (create_reply 7 0)
unfolding any_in turn_of volume_after asked effect datagram call_header_at u32_text u64_text u32_at u64_at opaque_at auth_at zero_at refusal_of args_at fh_at bytes_at form_text create_at dir_op_at create_how_at create_arm_at sattr_at set_time_at given_time_at time_at optional_at part_at sattr_text set_time_text optional_text stable_at write_at
create_replied = record {
  first = refl;
  is = record { event = refl; reply = sym (ap (λ r. answer_to creating.client_asked r.1) create_performed) };
}

-- the volume with the file, in which the WRITE is performed
pub created_volume : (perform v0 (the_create 0) nobody epoch file_two).0 ≡ v1
created_volume = ap (λ r. r.0) create_performed

pub writes_there : perform (perform v0 (the_create 0) nobody epoch file_two).0 (the_write 0 stable.FileSync) nobody epoch kept_write ≡ (v2, write_answer)
writes_there = ap (λ v. perform v (the_write 0 stable.FileSync) nobody epoch kept_write) created_volume ∙ write_performed

abbrev pub before_decision : History
before_decision = turn (event.Give 14) [] ∷ granted

write_done : IsEffect start (turn (event.Give 15) (Sent 16 decided ∷ Sent 17 (apply 16) ∷ Sent 18 (apply 32) ∷ []) ∷ before_decision) epoch 10 epoch kept_write (write_asked stable.FileSync)
unfolding any_in turn_of volume_after asked effect datagram call_header_at u32_text u64_text u32_at u64_at opaque_at auth_at zero_at refusal_of args_at fh_at bytes_at form_text create_at dir_op_at create_how_at create_arm_at sattr_at set_time_at given_time_at time_at optional_at part_at sattr_text set_time_text optional_text stable_at write_at
write_done = record {
  changing = refl;
  accepted = refl;
  first = refl;
  after_arrival = inl (refl, at_once);
  not_later = inl (refl, at_once);
  unused = inl refl;
  kept = sym (ap (λ r. is_kept r.1) writes_there);
}

write_replied : IsReply start (turn (event.Give 16) [] ∷ agreed) epoch 10 17 write_reply
unfolding any_in turn_of volume_after asked effect datagram call_header_at u32_text u64_text u32_at u64_at opaque_at auth_at zero_at refusal_of args_at fh_at bytes_at form_text create_at dir_op_at create_how_at create_arm_at sattr_at set_time_at given_time_at time_at optional_at part_at sattr_text set_time_text optional_text stable_at write_at
write_replied = record {
  first = refl;
  is = record { event = refl; reply = sym (ap (λ r. answer_to (write_asked stable.FileSync) r.1) writes_there) };
}

-- ---- the turns

-- nothing is noted
abbrev pub silent : (past : History) (k : ℕ) → IsLegalTurn start past (turn (event.Give k) [])
silent past k = record { may = tt; at_once = tt }

-- one frame is sent
abbrev pub sends_one : (past : History) (k n : ℕ) (f : Frame) → IsLegalTurn start past (turn (event.Give k) (Sent n f ∷ []))
sends_one past k n f = record { may = (tt, tt); at_once = tt }

arrives : IsLegalTurn start welcomed (turn (event.Call 0 (create_call 7 0)) (Sent 3 ask_name ∷ []))
unfolding any_in turn_of volume_after asked effect datagram call_header_at u32_text u64_text u32_at u64_at opaque_at auth_at zero_at refusal_of args_at fh_at bytes_at form_text create_at dir_op_at create_how_at create_arm_at sattr_at set_time_at given_time_at time_at optional_at part_at sattr_text set_time_text optional_text stable_at write_at
arrives = record { may = (tt, tt); at_once = λ up. tt }

arrives_later : IsLegalTurn start created (turn (event.Call 0 (write_call 8 0 2)) (Sent 9 ask_file ∷ []))
unfolding any_in turn_of volume_after asked effect datagram call_header_at u32_text u64_text u32_at u64_at opaque_at auth_at zero_at refusal_of args_at fh_at bytes_at form_text create_at dir_op_at create_how_at create_arm_at sattr_at set_time_at given_time_at time_at optional_at part_at sattr_text set_time_text optional_text stable_at write_at
arrives_later = record { may = (tt, tt); at_once = λ up. tt }

makes : IsLegalTurn start create_asked (turn (event.Give 7) (Sent 8 created_packet ∷ Did 3 epoch file_two ∷ []))
unfolding any_in turn_of volume_after asked effect datagram call_header_at u32_text u64_text u32_at u64_at opaque_at auth_at zero_at refusal_of args_at fh_at bytes_at form_text create_at dir_op_at create_how_at create_arm_at sattr_at set_time_at given_time_at time_at optional_at part_at sattr_text set_time_text optional_text stable_at write_at
makes = record { may = (tt, (create_done, tt)); at_once = tt }

replies : IsLegalTurn start file_made (turn (event.Give 8) (Replied 3 8 (create_reply 7 0) ∷ []))
replies = record { may = (create_replied, tt); at_once = tt }

decides : IsLegalTurn start before_decision (turn (event.Give 15) (Sent 16 decided ∷ Sent 17 (apply 16) ∷ Sent 18 (apply 32) ∷ Did 10 epoch kept_write ∷ []))
unfolding any_in turn_of volume_after asked effect datagram call_header_at u32_text u64_text u32_at u64_at opaque_at auth_at zero_at refusal_of args_at fh_at bytes_at form_text create_at dir_op_at create_how_at create_arm_at sattr_at set_time_at given_time_at time_at optional_at part_at sattr_text set_time_text optional_text stable_at write_at
decides = record { may = (tt, (tt, (tt, (write_done, tt)))); at_once = tt }

replies_later : IsLegalTurn start agreed (turn (event.Give 16) (Replied 10 17 write_reply ∷ []))
replies_later = record { may = (write_replied, tt); at_once = tt }

legal_welcomed : Legal start welcomed
legal_welcomed = (((tt, record { may = (tt, tt); at_once = tt }), record { may = (tt, tt); at_once = tt }), record { may = (tt, tt); at_once = tt })

pub legal_created : Legal start created
legal_created = (((((((legal_welcomed, arrives), sends_one _ 3 4 _), sends_one _ 4 5 _), sends_one _ 5 6 _), sends_one _ 6 7 _), makes), replies)

legal_started : Legal start started
legal_started = ((((legal_created, arrives_later), sends_one _ 9 10 _), sends_one _ 10 11 _), record { may = (tt, (tt, tt)); at_once = tt })

pub a_stable_write_is_legal : Legal start finished
a_stable_write_is_legal =
    (((((((((legal_started, sends_one _ 12 14 _), sends_one _ 13 15 _), silent _ 14), decides), replies_later), sends_one _ 17 19 _), sends_one _ 18 20 _), silent _ 19), silent _ 20)
