-- The history of a file that is removed, and isn't there the second time, is wired, by computing.
use Rattle.std.proofs.Common.{◌≡◌, ℕ, true≢false, [], ◌∷◌, None, is_some, unwrap_or, refl, sym, ap, subst, ◌∙◌, inl, inr}
use Rattle.std.specs.Cmp.{nat_cmp_total}
use Rattle.std.specs.FinMap.{get}
use Rattle.sl_defs.specs.Items.{u32_text, u64_text, u32_at, u64_at, opaque_at}
use Rattle.sl_defs.specs.Parts.{optional_text, optional_at, part_at}
use Rattle.sl_defs.specs.Rpc.{call_header_at, auth_at, zero_at, refusal_of}
use Rattle.sl_defs.specs.declared.event.Event.TheVariants as event
use Rattle.sl_types.specs.Handles.{form_text}
use Rattle.sl_types.specs.declared.kind.Status.TheVariants as status
use Rattle.sl_items.specs.Reading.{fh_at, bytes_at, sattr_at, set_time_at, given_time_at, time_at}
use Rattle.sl_items.specs.Spelling.{set_time_text, sattr_text}
use Rattle.sl_calls.specs.Reading.{args_at, create_at, dir_op_at, create_how_at, create_arm_at}
use Rattle.sl_cells.specs.declared.keys.CellKey.TheVariants as key
use Rattle.sl_frames.specs.declared.found.FoundCell.TheVariants as cell
use Rattle.sl_model.specs.Volume.{Volume, seen}
use Rattle.sl_model.specs.Changing.{cookie_in, entry_to}
use Rattle.sl_model.specs.Perform.{new_root, perform}
use Rattle.sl_rpc.specs.Heads.{nobody}
use Rattle.sl_history.specs.Turns.{Sent, Did, Replied, Turn, History, turn_of}
use Rattle.sl_history.specs.Arrivals.{datagram, asked, asked_in}
use Rattle.sl_history.specs.Frames.{frame, in_flight, is_up}
use Rattle.sl_history.specs.Volumes.{volume_after}
use Rattle.sl_history.specs.Licensed.{request}
use Rattle.sl_history.specs.Wired.{Wired, IsWiredTurn, IsWiredDid, LiesWith, frames, cell_of, is_quiet, getattr_of}
use Rattle.sl_machine.specs.Parts.{object_cell}
use Rattle.sl_examples.specs.Histories.{start}
use Rattle.sl_witness.specs.Histories.{setup, epoch, turn, no_fileid}
use Rattle.sl_witness.proofs.Maps.{got_past}
use Rattle.sl_operations.specs.Histories.{name, full_root, emptied_root, new_node, new_name, remove_call, remove_reply, look_up, found_name, ask_named, found_named, remove, removed_packet, found_gone, created, remove_asked, named_asked, remove_ordered, file_removed, removed, gone_asked, removed_twice}
use Rattle.sl_operations.proofs.Names.{taken_past}
use Rattle.sl_operations.proofs.Removing.{the_remove, client_asked, server_is_asked}
use Rattle.sl_operations.proofs.Lawful.{v1, has_file, created_volume}
use Rattle.sl_operations.proofs.LawfulRemoves.{v2, flushed_past, has_full_root, has_name, has_emptied_root, has_no_name, with_file, without_file, removes_there, finds_none_there}
use Rattle.sl_operations.proofs.Granted.{nothing_cut, nothing_written, key_lies}
use Rattle.sl_operations.proofs.WiredCreates.{tells_node, tells_name, tells_none, no_text, wired_created}

-- ---- what the directory server tells

name_is_there : cell.Name new_name ≡ cell_of with_file (key.Name 1 name)
name_is_there =
    subst (λ v. cell.Name new_name ≡ cell_of v (key.Name 1 name)) (sym created_volume) (tells_name v1 1 name (entry_to new_node (cookie_in (new_root 1))) has_name)

full_root_is_there : cell.Attr (object_cell full_root []) ≡ cell_of with_file (key.Attr 1)
full_root_is_there = subst (λ v. cell.Attr (object_cell full_root []) ≡ cell_of v (key.Attr 1)) (sym created_volume) (tells_node v1 1 full_root has_full_root (no_text 1))

file_is_there : cell.Attr (object_cell new_node []) ≡ cell_of with_file (key.Attr 2)
file_is_there = subst (λ v. cell.Attr (object_cell new_node []) ≡ cell_of v (key.Attr 2)) (sym created_volume) (tells_node v1 2 new_node has_file (no_text 2))

without_it : without_file ≡ v2
without_it = ap (λ r. r.0) removes_there

name_is_gone : cell.Absent ≡ cell_of without_file (key.Name 1 name)
name_is_gone = subst (λ v. cell.Absent ≡ cell_of v (key.Name 1 name)) (sym without_it) (tells_none v2 1 name has_no_name)

emptied_root_is_there : cell.Attr (object_cell emptied_root []) ≡ cell_of without_file (key.Attr 1)
emptied_root_is_there =
    subst (λ v. cell.Attr (object_cell emptied_root []) ≡ cell_of v (key.Attr 1)) (sym without_it)
    (tells_node v2 1 emptied_root has_emptied_root (taken_past nat_cmp_total _ 2 1 None refl (no_text 1)))

-- ---- the removal lies with the directory server

none_written : (q : ℕ × ℕ) → get v2.written q ≡ None
none_written q = nothing_cut 2 0 _ q (nothing_cut 1 0 _ q (nothing_written q))

lies : LiesWith setup v1 v2 16
lies = record {
  cells = λ k differs. key_lies k;
  bytes = λ f at differs. absurd (differs (ap (λ o. unwrap_or o 0) (nothing_written (f, at) ∙ sym (none_written (f, at)))));
}

-- no object has the fileid 0
none_made : get v1.nodes 0 ≡ None → get v2.nodes 0 ≡ None
none_made e = taken_past nat_cmp_total _ 2 0 None refl (got_past _ 1 _ 0 None refl (flushed_past v1.nodes 1 (seen v1 1) 0 None refl e))

abbrev removal : Turn
removal = turn (event.Give 13) (Sent 14 removed_packet ∷ Did 10 epoch no_fileid ∷ [])

stands : IsWiredDid setup remove_ordered removal (removal ∷ remove_ordered) v1 v2 10 no_fileid client_asked
unfolding frame is_up
stands = record {
  stands = λ changed. inr (16, refl, refl, lies);
  site = record { right = λ n d named e before after has of. absurd (true≢false (sym (ap is_some (sym (none_made before) ∙ after)))) };
}

-- over the volumes that the notes leave
stands_there : (v w : Volume) → v ≡ v1 → w ≡ v2 → IsWiredDid setup remove_ordered removal (removal ∷ remove_ordered) v w 10 no_fileid client_asked
stands_there v w p q =
    subst (λ v. IsWiredDid setup remove_ordered removal (removal ∷ remove_ordered) v w 10 no_fileid client_asked) (sym p)
    (subst (λ w. IsWiredDid setup remove_ordered removal (removal ∷ remove_ordered) v1 w 10 no_fileid client_asked) (sym q) stands)

-- an effect that changes nothing may be noted by anyone
changes_nothing : (past : History) (t : Turn) (h : History) (v w : Volume) → v ≡ w → IsWiredDid setup past t h v w 17 no_fileid client_asked
changes_nothing past t h v w same = record {
  stands = λ changed. absurd (changed same);
  site = record { right = λ n d named e before after has of. absurd (true≢false (sym (ap is_some (sym before ∙ (ap (λ u. get u.nodes 0) same ∙ after))))) };
}

still_without : without_file ≡ (perform without_file (the_remove 0) nobody epoch no_fileid).0
still_without = without_it ∙ sym (ap (λ r. r.0) finds_none_there)

-- ---- the turns

name_is_asked : IsWiredTurn setup start created (turn (event.Call 0 (remove_call 8 0)) (Sent 9 (look_up 10 4) ∷ []))
unfolding frames frame is_up request
name_is_asked = record { flying = tt; may = (record { number = refl; sender = refl; answer = λ is. absurd (true≢false (sym is)); quiet = refl }, tt); told = (tt, tt) }

name_is_told : IsWiredTurn setup start remove_asked (turn (event.Give 9) (Sent 10 found_name ∷ []))
unfolding frames frame in_flight is_up request turn_of asked volume_after datagram call_header_at u32_text u64_text u32_at u64_at opaque_at auth_at zero_at refusal_of args_at fh_at bytes_at form_text create_at dir_op_at create_how_at create_arm_at sattr_at set_time_at given_time_at time_at optional_at part_at sattr_text set_time_text optional_text
name_is_told = record {
  flying = refl;
  may = (
    record {
      number = refl;
      sender = refl;
      answer = λ is. record {
        asking = look_up 10 4;
        given = inl (record { gives = refl; up = refl });
        answers = record { kind = refl; sender = refl; receiver = refl; fence = refl; tag = refl; op = refl };
      };
      quiet = refl;
    },
    tt,
  );
  told = ((λ here. name_is_there, (λ here. full_root_is_there, tt)), tt);
}

file_is_asked : IsWiredTurn setup start (turn (event.Give 9) (Sent 10 found_name ∷ []) ∷ remove_asked) (turn (event.Give 10) (Sent 11 ask_named ∷ []))
unfolding frames frame in_flight is_up request
file_is_asked = record { flying = refl; may = (record { number = refl; sender = refl; answer = λ is. absurd (true≢false (sym is)); quiet = refl }, tt); told = (tt, tt) }

file_is_told : IsWiredTurn setup start named_asked (turn (event.Give 11) (Sent 12 found_named ∷ []))
unfolding frames frame in_flight is_up request turn_of asked volume_after datagram call_header_at u32_text u64_text u32_at u64_at opaque_at auth_at zero_at refusal_of args_at fh_at bytes_at form_text create_at dir_op_at create_how_at create_arm_at sattr_at set_time_at given_time_at time_at optional_at part_at sattr_text set_time_text optional_text
file_is_told = record {
  flying = refl;
  may = (
    record {
      number = refl;
      sender = refl;
      answer = λ is. record {
        asking = ask_named;
        given = inl (record { gives = refl; up = refl });
        answers = record { kind = refl; sender = refl; receiver = refl; fence = refl; tag = refl; op = refl };
      };
      quiet = refl;
    },
    tt,
  );
  told = ((λ here. file_is_there, tt), tt);
}

abbrev named_told : History
named_told = turn (event.Give 11) (Sent 12 found_named ∷ []) ∷ named_asked

remove_is_asked : IsWiredTurn setup start named_told (turn (event.Give 12) (Sent 13 remove ∷ []))
unfolding frames frame in_flight is_up request
remove_is_asked = record {
  flying = refl;
  may = (
    record {
      number = refl;
      sender = refl;
      answer = λ is. absurd (true≢false (sym is));
      quiet = ap (λ d. is_quiet (volume_after start (turn (event.Give 12) [] ∷ named_told)) (getattr_of (asked_in d))) server_is_asked;
    },
    tt,
  );
  told = (tt, tt);
}

file_is_removed : IsWiredTurn setup start remove_ordered removal
unfolding frames frame in_flight is_up request turn_of asked volume_after datagram call_header_at u32_text u64_text u32_at u64_at opaque_at auth_at zero_at refusal_of args_at fh_at bytes_at form_text create_at dir_op_at create_how_at create_arm_at sattr_at set_time_at given_time_at time_at optional_at part_at sattr_text set_time_text optional_text
file_is_removed = record {
  flying = refl;
  may = (
    record {
      number = refl;
      sender = refl;
      answer = λ is. record {
        asking = remove;
        given = inl (record { gives = refl; up = refl });
        answers = record { kind = refl; sender = refl; receiver = refl; fence = refl; tag = refl; op = refl };
      };
      quiet = refl;
    },
    (stands_there _ _ created_volume without_it, tt),
  );
  told = (tt, tt);
}

is_replied : IsWiredTurn setup start file_removed (turn (event.Give 14) (Replied 10 15 (remove_reply 8 status.Ok) ∷ []))
unfolding frame in_flight is_up turn_of asked datagram call_header_at u32_text u64_text u32_at u64_at opaque_at auth_at zero_at refusal_of args_at fh_at bytes_at form_text dir_op_at
is_replied = record { flying = refl; may = (tt, tt); told = tt }

name_is_asked_again : IsWiredTurn setup start removed (turn (event.Call 0 (remove_call 8 0)) (Sent 15 (look_up 17 7) ∷ []))
unfolding frames frame is_up request
name_is_asked_again = record { flying = tt; may = (record { number = refl; sender = refl; answer = λ is. absurd (true≢false (sym is)); quiet = refl }, tt); told = (tt, tt) }

abbrev asked_again : History
asked_again = turn (event.Call 0 (remove_call 8 0)) (Sent 15 (look_up 17 7) ∷ []) ∷ removed

none_is_told : IsWiredTurn setup start asked_again (turn (event.Give 15) (Sent 16 found_gone ∷ []))
unfolding frames frame in_flight is_up request turn_of asked volume_after datagram call_header_at u32_text u64_text u32_at u64_at opaque_at auth_at zero_at refusal_of args_at fh_at bytes_at form_text create_at dir_op_at create_how_at create_arm_at sattr_at set_time_at given_time_at time_at optional_at part_at sattr_text set_time_text optional_text
none_is_told = record {
  flying = refl;
  may = (
    record {
      number = refl;
      sender = refl;
      answer = λ is. record {
        asking = look_up 17 7;
        given = inl (record { gives = refl; up = refl });
        answers = record { kind = refl; sender = refl; receiver = refl; fence = refl; tag = refl; op = refl };
      };
      quiet = refl;
    },
    tt,
  );
  told = ((λ here. name_is_gone, (λ here. emptied_root_is_there, tt)), tt);
}

is_replied_again : IsWiredTurn setup start gone_asked (turn (event.Give 16) (Did 17 epoch no_fileid ∷ Replied 17 19 (remove_reply 8 status.NoEnt) ∷ []))
unfolding in_flight turn_of asked volume_after datagram call_header_at u32_text u64_text u32_at u64_at opaque_at auth_at zero_at refusal_of args_at fh_at bytes_at form_text create_at dir_op_at create_how_at create_arm_at sattr_at set_time_at given_time_at time_at optional_at part_at sattr_text set_time_text optional_text
is_replied_again = record { flying = refl; may = (changes_nothing _ _ _ _ _ still_without, (tt, tt)); told = tt }

wired_removed : Wired setup start removed
wired_removed = (((((((wired_created, name_is_asked), name_is_told), file_is_asked), file_is_told), remove_is_asked), file_is_removed), is_replied)

pub a_removal_is_wired : Wired setup start removed_twice
a_removal_is_wired = (((wired_removed, name_is_asked_again), none_is_told), is_replied_again)
