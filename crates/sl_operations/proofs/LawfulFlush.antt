-- The history of an unstable WRITE and a COMMIT is legal, by computing.
use Rattle.std.proofs.Common.{◌≡◌, true, [], ◌∷◌, Some, Ok, refl, sym, ap, ◌∙◌, inl, arith}
use Rattle.std.specs.FinMap.{get}
use Rattle.sl_defs.specs.Items.{u32_text, u64_text, u32_at, u64_at, opaque_at}
use Rattle.sl_defs.specs.Parts.{optional_text, optional_at, part_at}
use Rattle.sl_defs.specs.Rpc.{call_header_at, auth_at, zero_at, refusal_of}
use Rattle.sl_defs.specs.declared.event.Event.TheVariants as event
use Rattle.sl_types.specs.Handles.{form_text, form_at, magic_at, handle_of}
use Rattle.sl_types.specs.declared.call.Stable.TheVariants as stable
use Rattle.sl_rpc.specs.Heads.{nobody}
use Rattle.sl_items.specs.Reading.{fh_at, bytes_at, sattr_at, set_time_at, given_time_at, time_at, stable_at}
use Rattle.sl_items.specs.Spelling.{set_time_text, sattr_text}
use Rattle.sl_calls.specs.Reading.{args_at, create_at, dir_op_at, create_how_at, create_arm_at, write_at, commit_at}
use Rattle.sl_model.specs.Plan.{run, ◌>>=◌}
use Rattle.sl_model.specs.Volume.{Volume, Unstable, after_changes, put_seen, seen, seen_as, sight}
use Rattle.sl_model.specs.Volume as volume
use Rattle.sl_model.specs.Perform.{fresh, perform, ends}
use Rattle.sl_model.specs.Procedures.{plan, fault}
use Rattle.sl_model.specs.Looking.{Outcome, committing}
use Rattle.sl_model.specs.Changing as model
use Rattle.sl_history.specs.Turns.{Sent, Did, Flush, Replied, History, turn_of}
use Rattle.sl_history.specs.Arrivals.{datagram, asked, answer_to}
use Rattle.sl_history.specs.Volumes.{volume_after, volume_at, effect}
use Rattle.sl_history.specs.Legal.{Legal, IsLegalTurn, IsEffect, IsReply, is_kept, is_settled, no_choice, any_in}
use Rattle.sl_examples.specs.Histories.{start}
use Rattle.sl_witness.specs.Histories.{epoch, fence, turn}
use Rattle.sl_witness.proofs.Maps.{got_here}
use Rattle.sl_witness.proofs.Packets.{run_look, run_see, run_done}
use Rattle.sl_operations.specs.Histories.{new_node, written_node, written_bytes, write_call, unstable_answer, unstable_reply, commit_call, commit_answer, commit_reply, ask_file, flush, flush_decided, apply, created, write_packet, file_two, write_asked, buffered, flush_started, flush_granted, flush_agreed, flushed}
use Rattle.sl_operations.proofs.Creating.{the_create}
use Rattle.sl_operations.proofs.Writing.{the_write}
use Rattle.sl_operations.proofs.Writing as writing
use Rattle.sl_operations.proofs.Committing.{the_commit, commit_asked}
use Rattle.sl_operations.proofs.Lawful.{v0, v1, has_file, created_volume, at_once, run_verifier, legal_created, silent, sends_one}

-- ---- the volumes

abbrev the_unstable : Unstable
the_unstable = record { fileid = 2; offset = 0; bytes = written_bytes; moment = epoch }

abbrev wrote : Outcome
wrote = model.unstable_write new_node 0 written_bytes fence epoch

-- with the unstable WRITE, and when it is flushed
abbrev pub v2 : Volume
v2 = after_changes wrote.changes v1

abbrev v3 : Volume
v3 = volume.flush 2 v2

sees_file : seen v1 2 ≡ Some new_node
unfolding fresh
sees_file = ap (seen_as []) has_file

writes : run (sight v1) (plan (the_write 0 stable.Unstable) nobody epoch no_choice) ≡ Ok wrote
unfolding ◌>>=◌ model.write_in u32_text u64_text u32_at u64_at zero_at form_text form_at magic_at handle_of
writes = run_look (sight v1) 2 _ _ has_file ∙ (run_see (sight v1) 2 _ _ sees_file ∙ (run_verifier (sight v1) _ ∙ run_done (sight v1) wrote))

pub write_performed : perform v1 (the_write 0 stable.Unstable) nobody epoch no_choice ≡ (v2, unstable_answer)
unfolding perform
write_performed = ap (ends v1 (fault (the_write 0 stable.Unstable))) writes

pub writes_there : perform (perform v0 (the_create 0) nobody epoch file_two).0 (the_write 0 stable.Unstable) nobody epoch no_choice ≡ (v2, unstable_answer)
writes_there = ap (λ v. perform v (the_write 0 stable.Unstable) nobody epoch no_choice) created_volume ∙ write_performed

-- the view has the bytes
sees_written : seen v2 2 ≡ Some written_node
unfolding fresh
sees_written = ap (seen_as (the_unstable ∷ [])) has_file

has_written : get v3.nodes 2 ≡ Some written_node
unfolding fresh
has_written = ap (λ o. get (put_seen v2.nodes 2 o) 2) sees_written ∙ got_here v2.nodes 2 written_node

sees_flushed : seen v3 2 ≡ Some written_node
unfolding fresh
sees_flushed = ap (seen_as []) has_written

commits : run (sight v3) (plan the_commit nobody epoch no_choice) ≡ Ok (committing written_node fence)
unfolding ◌>>=◌ u32_text u64_text u32_at u64_at zero_at form_text form_at magic_at handle_of
commits = run_look (sight v3) 2 _ _ has_written ∙ (run_see (sight v3) 2 _ _ sees_flushed ∙ (run_verifier (sight v3) _ ∙ run_done (sight v3) (committing written_node fence)))

commit_performed : (perform v3 the_commit nobody epoch no_choice).1 ≡ commit_answer
unfolding perform
commit_performed = ap (λ r. (ends v3 (fault the_commit) r).1) commits

-- ---- the effects and replies

abbrev pub written : History
written = turn (event.Give 11) (Sent 12 write_packet ∷ []) ∷ write_asked

abbrev pub before_flush : History
before_flush = turn (event.Give 16) [] ∷ flush_granted

write_done : IsEffect start (turn (event.Give 12) [] ∷ written) epoch 10 epoch no_choice (writing.write_asked stable.Unstable)
unfolding any_in turn_of volume_after asked effect datagram call_header_at u32_text u64_text u32_at u64_at opaque_at auth_at zero_at refusal_of args_at fh_at bytes_at form_text create_at dir_op_at create_how_at create_arm_at sattr_at set_time_at given_time_at time_at optional_at part_at sattr_text set_time_text optional_text stable_at write_at
write_done = record {
  changing = refl;
  accepted = refl;
  first = refl;
  after_arrival = inl (refl, at_once);
  not_later = inl (refl, at_once);
  unused = inl refl;
  kept = sym (ap (λ r. is_kept r.1) writes_there);
}

write_replied : IsReply start (turn (event.Give 12) (Did 10 epoch no_choice ∷ []) ∷ written) epoch 10 14 unstable_reply
unfolding any_in turn_of volume_after asked effect datagram call_header_at u32_text u64_text u32_at u64_at opaque_at auth_at zero_at refusal_of args_at fh_at bytes_at form_text create_at dir_op_at create_how_at create_arm_at sattr_at set_time_at given_time_at time_at optional_at part_at sattr_text set_time_text optional_text stable_at write_at
write_replied = record {
  first = refl;
  is = record { event = refl; reply = sym (ap (λ r. answer_to (writing.write_asked stable.Unstable) r.1) writes_there) };
}

-- the volume when COMMIT is replied
pub flushed_volume : volume.flush 2 (perform (perform v0 (the_create 0) nobody epoch file_two).0 (the_write 0 stable.Unstable) nobody epoch no_choice).0 ≡ v3
flushed_volume = ap (λ r. volume.flush 2 r.0) writes_there

commit_replied : IsReply start (turn (event.Give 18) [] ∷ flush_agreed) epoch 15 21 commit_reply
unfolding any_in turn_of volume_after asked effect datagram call_header_at u32_text u64_text u32_at u64_at opaque_at auth_at zero_at refusal_of args_at fh_at bytes_at form_text create_at commit_at dir_op_at create_how_at create_arm_at sattr_at set_time_at given_time_at time_at optional_at part_at sattr_text set_time_text optional_text stable_at write_at volume_at
commit_replied = record {
  first = refl;
  is = record {
    accepted = refl;
    not_before = omega arith;
    not_later = omega arith;
    reply = sym (ap (λ v. answer_to commit_asked (perform v the_commit nobody epoch no_choice).1) flushed_volume ∙ ap (answer_to commit_asked) commit_performed);
    settled = λ ok. ap (λ v. is_settled v the_commit) flushed_volume;
  };
}

-- ---- the turns

arrives : IsLegalTurn start created (turn (event.Call 0 (write_call 8 0 0)) (Sent 9 ask_file ∷ []))
unfolding any_in turn_of volume_after asked effect datagram call_header_at u32_text u64_text u32_at u64_at opaque_at auth_at zero_at refusal_of args_at fh_at bytes_at form_text create_at dir_op_at create_how_at create_arm_at sattr_at set_time_at given_time_at time_at optional_at part_at sattr_text set_time_text optional_text stable_at write_at
arrives = record { may = (tt, tt); at_once = λ up. tt }

commit_arrives : IsLegalTurn start buffered (turn (event.Call 0 (commit_call 9 0)) (Sent 13 (flush 15) ∷ []))
unfolding any_in turn_of volume_after asked effect datagram call_header_at u32_text u64_text u32_at u64_at opaque_at auth_at zero_at refusal_of args_at fh_at bytes_at form_text create_at commit_at dir_op_at create_how_at create_arm_at sattr_at set_time_at given_time_at time_at optional_at part_at sattr_text set_time_text optional_text stable_at write_at volume_at
commit_arrives = record { may = (tt, tt); at_once = λ up. tt }

buffers : IsLegalTurn start written (turn (event.Give 12) (Did 10 epoch no_choice ∷ Replied 10 14 unstable_reply ∷ []))
unfolding any_in turn_of volume_after asked effect datagram call_header_at u32_text u64_text u32_at u64_at opaque_at auth_at zero_at refusal_of args_at fh_at bytes_at form_text create_at dir_op_at create_how_at create_arm_at sattr_at set_time_at given_time_at time_at optional_at part_at sattr_text set_time_text optional_text stable_at write_at
buffers = record { may = (write_done, (write_replied, tt)); at_once = tt }

decides : IsLegalTurn start before_flush (turn (event.Give 17) (Sent 18 (flush_decided true) ∷ Sent 19 (apply 16) ∷ Sent 20 (apply 32) ∷ Flush 2 ∷ []))
decides = record { may = (tt, (tt, (tt, (tt, tt)))); at_once = tt }

replies : IsLegalTurn start flush_agreed (turn (event.Give 18) (Replied 15 21 commit_reply ∷ []))
replies = record { may = (commit_replied, tt); at_once = tt }

pub legal_buffered : Legal start buffered
legal_buffered = (((((legal_created, arrives), sends_one _ 9 10 _), sends_one _ 10 11 _), sends_one _ 11 12 _), buffers)

legal_started : Legal start flush_started
legal_started = ((legal_buffered, commit_arrives), record { may = (tt, (tt, tt)); at_once = tt })

pub a_flush_is_legal : Legal start flushed
a_flush_is_legal =
    (((((((((legal_started, sends_one _ 14 16 _), sends_one _ 15 17 _), silent _ 16), decides), replies), sends_one _ 19 21 _), sends_one _ 20 22 _), silent _ 21), silent _ 22)
