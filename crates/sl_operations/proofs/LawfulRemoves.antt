-- The history of a file that is made and removed, and isn't there the second time, is legal, by computing.
use Rattle.std.proofs.Common.{◌≡◌, ℕ, [], ◌∷◌, Option, Some, None, Ok, Err, refl, sym, ap, ◌∙◌, inl, false}
use Rattle.std.specs.Cmp.{nat_cmp_total}
use Rattle.std.specs.Ordering.{nat_cmp, eq_by_cmp}
use Rattle.std.specs.FinMap.{FinMap, get}
use Rattle.sl_defs.specs.Items.{u32_text, u64_text, u32_at, u64_at, opaque_at}
use Rattle.sl_defs.specs.Parts.{optional_text, optional_at, part_at}
use Rattle.sl_defs.specs.Rpc.{call_header_at, auth_at, zero_at, refusal_of}
use Rattle.sl_defs.specs.declared.event.Event.TheVariants as event
use Rattle.sl_types.specs.Handles.{form_text, form_at, magic_at, handle_of}
use Rattle.sl_types.specs.declared.kind.Status.{Status}
use Rattle.sl_types.specs.declared.kind.Status.TheVariants as status
use Rattle.sl_types.specs.declared.reply.Reply.TheVariants as reply
use Rattle.sl_rpc.specs.Heads.{nobody}
use Rattle.sl_items.specs.Reading.{fh_at, bytes_at, sattr_at, set_time_at, given_time_at, time_at}
use Rattle.sl_items.specs.Spelling.{set_time_text, sattr_text}
use Rattle.sl_calls.specs.Reading.{args_at, create_at, dir_op_at, create_how_at, create_arm_at}
use Rattle.sl_model.specs.declared.node.Node.{Node}
use Rattle.sl_model.specs.Plan.{Sight, Stop, run, ◌>>=◌}
use Rattle.sl_model.specs.Volume.{Volume, after_changes, put_seen, sight}
use Rattle.sl_model.specs.Perform.{perform, ends}
use Rattle.sl_model.specs.Procedures.{plan, fault}
use Rattle.sl_model.specs.Checks.{checked}
use Rattle.sl_model.specs.Looking.{no_wcc}
use Rattle.sl_model.specs.Changing.{cookie_in, entry_to}
use Rattle.sl_model.specs.Perform.{new_root}
use Rattle.sl_history.specs.Turns.{Sent, Did, Replied, turn_of}
use Rattle.sl_history.specs.Arrivals.{datagram, asked, answer_to}
use Rattle.sl_history.specs.Volumes.{volume_after, effect}
use Rattle.sl_history.specs.Legal.{Legal, IsLegalTurn, IsEffect, IsReply, is_kept, any_in}
use Rattle.sl_examples.specs.Histories.{start}
use Rattle.sl_witness.specs.Histories.{epoch, turn, no_fileid}
use Rattle.sl_witness.proofs.Maps.{got_here, got_past}
use Rattle.sl_witness.proofs.Packets.{run_look, run_see, run_done}
use Rattle.sl_operations.specs.Histories.{name, full_root, emptied_root, new_node, remove_call, remove_reply, look_up, removed_packet, created, remove_ordered, file_removed, removed, gone_asked, removed_twice, file_two}
use Rattle.sl_operations.proofs.Names.{put_here, taken_here, taken_past, names_total}
use Rattle.sl_operations.proofs.Creating.{the_create, run_find, run_want}
use Rattle.sl_operations.proofs.Removing.{the_remove, client_asked, outcome}
use Rattle.sl_operations.proofs.Lawful.{v0, v1, sees_file, created_volume, at_once, legal_created, sends_one}

-- ---- the volumes

-- without the file
abbrev pub v2 : Volume
v2 = after_changes outcome.changes v1

-- a flush of one file leaves all other nodes
pub flushed_past : (m : FinMap nat_cmp Node) (f : ℕ) (o : Option Node) (q : ℕ) (r : Option Node) → eq_by_cmp nat_cmp q f ≡ false → get m q ≡ r → get (put_seen m f o) q ≡ r
flushed_past m f None q r apart is = is
flushed_past m f (Some n) q r apart is = got_past m f n q r apart is

pub has_full_root : get v1.nodes 1 ≡ Some full_root
has_full_root = got_past _ 2 new_node 1 _ refl (flushed_past _ 2 _ 1 _ refl (got_here _ 1 _))

pub has_name : get v1.names (1, name) ≡ Some (entry_to new_node (cookie_in (new_root 1)))
has_name = put_here names_total _ (1, name) _ refl

removes : run (sight v1) (plan (the_remove 0) nobody epoch no_fileid) ≡ Ok outcome
unfolding ◌>>=◌ checked u32_text u64_text u32_at u64_at zero_at form_text form_at magic_at handle_of
removes =
    run_want (sight v1) _ _
    ∙ (run_look (sight v1) 1 _ _ has_full_root ∙ (run_find (sight v1) 1 name _ _ has_name ∙ (run_see (sight v1) 2 _ _ sees_file ∙ run_done (sight v1) outcome)))

remove_performed : perform v1 (the_remove 0) nobody epoch no_fileid ≡ (v2, reply.Remove status.Ok no_wcc)
unfolding perform
remove_performed = ap (ends v1 (fault (the_remove 0))) removes

pub has_emptied_root : get v2.nodes 1 ≡ Some emptied_root
has_emptied_root = taken_past nat_cmp_total _ 2 1 _ refl (got_here _ 1 _)

pub has_no_name : get v2.names (1, name) ≡ None
has_no_name = taken_here names_total _ (1, name) refl

run_stop : {A : Type 0} (s : Sight) (e : Status) → run {A = A} s (Stop e) ≡ Err e
unfolding run
run_stop s e = refl

finds_none : run (sight v2) (plan (the_remove 0) nobody epoch no_fileid) ≡ Err status.NoEnt
unfolding ◌>>=◌ checked u32_text u64_text u32_at u64_at zero_at form_text form_at magic_at handle_of
finds_none = run_want (sight v2) _ _ ∙ (run_look (sight v2) 1 _ _ has_emptied_root ∙ (run_find (sight v2) 1 name _ _ has_no_name ∙ run_stop (sight v2) status.NoEnt))

none_performed : perform v2 (the_remove 0) nobody epoch no_fileid ≡ (v2, reply.Remove status.NoEnt no_wcc)
unfolding perform
none_performed = ap (ends v2 (fault (the_remove 0))) finds_none

-- the volumes in which the calls are performed
abbrev pub with_file : Volume
with_file = (perform v0 (the_create 0) nobody epoch file_two).0

abbrev pub without_file : Volume
without_file = (perform with_file (the_remove 0) nobody epoch no_fileid).0

pub removes_there : perform with_file (the_remove 0) nobody epoch no_fileid ≡ (v2, reply.Remove status.Ok no_wcc)
removes_there = ap (λ v. perform v (the_remove 0) nobody epoch no_fileid) created_volume ∙ remove_performed

pub finds_none_there : perform without_file (the_remove 0) nobody epoch no_fileid ≡ (v2, reply.Remove status.NoEnt no_wcc)
finds_none_there = ap (λ r. perform r.0 (the_remove 0) nobody epoch no_fileid) removes_there ∙ none_performed

-- ---- the effects and replies

remove_done : IsEffect start (turn (event.Give 13) (Sent 14 removed_packet ∷ []) ∷ remove_ordered) epoch 10 epoch no_fileid client_asked
unfolding any_in turn_of volume_after asked effect datagram call_header_at u32_text u64_text u32_at u64_at opaque_at auth_at zero_at refusal_of args_at fh_at bytes_at form_text create_at dir_op_at create_how_at create_arm_at sattr_at set_time_at given_time_at time_at optional_at part_at sattr_text set_time_text optional_text
remove_done = record {
  changing = refl;
  accepted = refl;
  first = refl;
  after_arrival = inl (refl, at_once);
  not_later = inl (refl, at_once);
  unused = inl refl;
  kept = sym (ap (λ r. is_kept r.1) removes_there);
}

remove_replied : IsReply start (turn (event.Give 14) [] ∷ file_removed) epoch 10 15 (remove_reply 8 status.Ok)
unfolding any_in turn_of volume_after asked effect datagram call_header_at u32_text u64_text u32_at u64_at opaque_at auth_at zero_at refusal_of args_at fh_at bytes_at form_text create_at dir_op_at create_how_at create_arm_at sattr_at set_time_at given_time_at time_at optional_at part_at sattr_text set_time_text optional_text
remove_replied = record {
  first = refl;
  is = record { event = refl; reply = sym (ap (λ r. answer_to client_asked r.1) removes_there) };
}

none_done : IsEffect start (turn (event.Give 16) [] ∷ gone_asked) epoch 17 epoch no_fileid client_asked
unfolding any_in turn_of volume_after asked effect datagram call_header_at u32_text u64_text u32_at u64_at opaque_at auth_at zero_at refusal_of args_at fh_at bytes_at form_text create_at dir_op_at create_how_at create_arm_at sattr_at set_time_at given_time_at time_at optional_at part_at sattr_text set_time_text optional_text
none_done = record {
  changing = refl;
  accepted = refl;
  first = refl;
  after_arrival = inl (refl, at_once);
  not_later = inl (refl, at_once);
  unused = inl refl;
  kept = sym (ap (λ r. is_kept r.1) finds_none_there);
}

none_replied : IsReply start (turn (event.Give 16) (Did 17 epoch no_fileid ∷ []) ∷ gone_asked) epoch 17 19 (remove_reply 8 status.NoEnt)
unfolding any_in turn_of volume_after asked effect datagram call_header_at u32_text u64_text u32_at u64_at opaque_at auth_at zero_at refusal_of args_at fh_at bytes_at form_text create_at dir_op_at create_how_at create_arm_at sattr_at set_time_at given_time_at time_at optional_at part_at sattr_text set_time_text optional_text
none_replied = record {
  first = refl;
  is = record { event = refl; reply = sym (ap (λ r. answer_to client_asked r.1) finds_none_there) };
}

-- ---- the turns

arrives : IsLegalTurn start created (turn (event.Call 0 (remove_call 8 0)) (Sent 9 (look_up 10 4) ∷ []))
unfolding any_in turn_of volume_after asked effect datagram call_header_at u32_text u64_text u32_at u64_at opaque_at auth_at zero_at refusal_of args_at fh_at bytes_at form_text create_at dir_op_at create_how_at create_arm_at sattr_at set_time_at given_time_at time_at optional_at part_at sattr_text set_time_text optional_text
arrives = record { may = (tt, tt); at_once = λ up. tt }

removes_file : IsLegalTurn start remove_ordered (turn (event.Give 13) (Sent 14 removed_packet ∷ Did 10 epoch no_fileid ∷ []))
unfolding any_in turn_of volume_after asked effect datagram call_header_at u32_text u64_text u32_at u64_at opaque_at auth_at zero_at refusal_of args_at fh_at bytes_at form_text create_at dir_op_at create_how_at create_arm_at sattr_at set_time_at given_time_at time_at optional_at part_at sattr_text set_time_text optional_text
removes_file = record { may = (tt, (remove_done, tt)); at_once = tt }

replies : IsLegalTurn start file_removed (turn (event.Give 14) (Replied 10 15 (remove_reply 8 status.Ok) ∷ []))
replies = record { may = (remove_replied, tt); at_once = tt }

arrives_again : IsLegalTurn start removed (turn (event.Call 0 (remove_call 8 0)) (Sent 15 (look_up 17 7) ∷ []))
unfolding any_in turn_of volume_after asked effect datagram call_header_at u32_text u64_text u32_at u64_at opaque_at auth_at zero_at refusal_of args_at fh_at bytes_at form_text create_at dir_op_at create_how_at create_arm_at sattr_at set_time_at given_time_at time_at optional_at part_at sattr_text set_time_text optional_text
arrives_again = record { may = (tt, tt); at_once = λ up. tt }

replies_again : IsLegalTurn start gone_asked (turn (event.Give 16) (Did 17 epoch no_fileid ∷ Replied 17 19 (remove_reply 8 status.NoEnt) ∷ []))
unfolding any_in turn_of volume_after asked effect datagram call_header_at u32_text u64_text u32_at u64_at opaque_at auth_at zero_at refusal_of args_at fh_at bytes_at form_text create_at dir_op_at create_how_at create_arm_at sattr_at set_time_at given_time_at time_at optional_at part_at sattr_text set_time_text optional_text
replies_again = record { may = (none_done, (none_replied, tt)); at_once = tt }

legal_removed : Legal start removed
legal_removed = (((((((legal_created, arrives), sends_one _ 9 10 _), sends_one _ 10 11 _), sends_one _ 11 12 _), sends_one _ 12 13 _), removes_file), replies)

pub a_removal_is_legal : Legal start removed_twice
a_removal_is_legal = (((legal_removed, arrives_again), sends_one _ 15 16 _), replies_again)
