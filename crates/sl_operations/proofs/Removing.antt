-- What the packets of a REMOVE say, by computing.
use Rattle.std.proofs.Common.{◌≡◌, ℕ, List, [], ◌∷◌, ◌++◌, Option, option_map, is_some, Some, None, Ok, refl, ap, ◌∙◌, if◌then◌else◌}
use Rattle.std.specs.Ordering.{nat_cmp}
use Rattle.std.specs.FinMap.{FinMap, get}
use Rattle.sl_defs.specs.Items.{u32_text, u64_text, u32_at, u64_at, opaque_at}
use Rattle.sl_defs.specs.Parts.{optional_text, optional_at, part_at}
use Rattle.sl_defs.specs.Rpc.{call_header_at, auth_at, zero_at, refusal_of, accepted_text}
use Rattle.sl_types.specs.Handles.{form_text, form_at, magic_at, handle_of, internal_of}
use Rattle.sl_types.specs.declared.call.Call.{Call}
use Rattle.sl_types.specs.declared.call.Call.TheVariants as call
use Rattle.sl_types.specs.declared.kind.Status.TheVariants as status
use Rattle.sl_types.specs.declared.reply.Reply.TheVariants as reply
use Rattle.sl_rpc.specs.Heads.{nobody}
use Rattle.sl_items.specs.Reading.{fh_at, bytes_at, kind_at, time_at, fattr_front_at, fattr_place_at, fattr_times_at, fattr_at}
use Rattle.sl_calls.specs.Reading.{args_at, dir_op_at}
use Rattle.sl_replies.specs.Reading.{status_at, wcc_attr_at, wcc_at, reply_at, reply_of}
use Rattle.sl_replies.specs.Texts.{wcc_text}
use Rattle.sl_edit.specs.Spans.{span_of, word_at, fh_span, args_in, handle_from, second_from, handle_span, results_in}
use Rattle.sl_cells.specs.declared.keys.CellKey.TheVariants as key
use Rattle.sl_cells.specs.declared.changes.Change.{Change}
use Rattle.sl_cells.specs.declared.changes.Change.TheVariants as change
use Rattle.sl_frames.specs.declared.found.FoundCell.TheVariants as cell
use Rattle.sl_model.specs.Plan.{run, ◌>>=◌, NodeKey, NameKey}
use Rattle.sl_model.specs.Checks.{checked}
use Rattle.sl_model.specs.Looking.{Outcome, no_wcc}
use Rattle.sl_model.specs.Changing as model
use Rattle.sl_model.specs.Procedures.{plan}
use Rattle.sl_history.specs.Arrivals.{datagram, Asked, IsAsked}
use Rattle.sl_history.specs.Placing.{carrier}
use Rattle.sl_machine.specs.Records.{Cells}
use Rattle.sl_machine.specs.Memory.{Hold, Told, Waiting, Dirty, nothing_told}
use Rattle.sl_machine.specs.Calls.{refused}
use Rattle.sl_machine.specs.Knowing.{node_of, entry_of, effect, unhurried}
use Rattle.sl_machine.specs.Parts.{cell_changes, object_cell}
use Rattle.sl_machine.specs.Wants.{Want, wants, Lock, AskFor, ForwardEffect, Answer, AtOnce, or_want, flush_by}
use Rattle.sl_machine.specs.Packets.{forwarded, outer_call, reply_in}
use Rattle.sl_machine.specs.Directories.{sight_of, gathered_of, link_of}
use Rattle.sl_witness.specs.Histories.{setup, epoch, root_handle, no_fileid}
use Rattle.sl_witness.proofs.Packets.{with_calls, run_look, run_see, run_done}
use Rattle.sl_operations.specs.Histories.{name, full_root, emptied_root, new_node, new_name, gone_cells, remove_call, remove_reply}
use Rattle.sl_operations.proofs.Creating.{root_hold, file_hold, run_find, run_want}
use Rattle.sl_operations.proofs.Writing.{with_dirty}

abbrev pub the_remove : ℕ → Call
the_remove last = call.Remove (root_handle last) name

abbrev pub client_asked : Asked
client_asked = record { xid = 8; procedure = 12; call = the_remove 0; cred = nobody }

abbrev pub server_asked : Asked
server_asked = record { xid = 6; procedure = 12; call = the_remove 16; cred = nobody }

pub client_is_asked : datagram (remove_call 8 0) ≡ IsAsked client_asked
unfolding datagram call_header_at u32_text u64_text u32_at u64_at opaque_at auth_at zero_at refusal_of args_at fh_at bytes_at form_text dir_op_at
client_is_asked = refl

pub server_is_asked : datagram (remove_call 6 16) ≡ IsAsked server_asked
unfolding datagram call_header_at u32_text u64_text u32_at u64_at opaque_at auth_at zero_at refusal_of args_at fh_at bytes_at form_text dir_op_at
server_is_asked = refl

pub is_forwarded : forwarded 16 6 (the_remove 0) (remove_call 8 0) ≡ remove_call 6 16
unfolding forwarded call_header_at u32_text u64_text u32_at u64_at opaque_at auth_at zero_at refusal_of fh_at form_text form_at magic_at handle_of span_of fh_span args_in handle_from second_from handle_span
is_forwarded = refl

-- ---- what the call wants

-- the name leads to the file
abbrev pub with_name_told : Told
with_name_told = record nothing_told { cells = (key.Name 1 name, cell.Name new_name) ∷ (key.Attr 1, cell.Attr (object_cell full_root [])) ∷ [] }

abbrev pub with_file_told : Told
with_file_told = record with_name_told { cells = with_name_told.cells ++ (key.Attr 2, cell.Attr (object_cell new_node [])) ∷ [] }

-- the name isn't there any more
abbrev pub with_gone_told : Told
with_gone_told = record nothing_told { cells = (key.Name 1 name, cell.Absent) ∷ (key.Attr 1, cell.Attr (object_cell emptied_root [])) ∷ [] }

abbrev pub removing : List Hold → Told → ℕ → Waiting
removing held told e = record { client = 0; packet = remove_call 8 0; asked = client_asked; held = held; awaits = []; request = None; told = told; answered = e }

pub wants_lock : (pending : FinMap nat_cmp Waiting) (tag : ℕ) → wants setup (with_calls pending tag) epoch (removing [] nothing_told 0) ≡ Lock (root_hold ∷ [])
unfolding wants refused run ◌>>=◌ checked u32_text u64_text u32_at u64_at zero_at form_text form_at magic_at handle_of
wants_lock pending tag = refl

pub wants_name :
    (pending : FinMap nat_cmp Waiting) (tag : ℕ)
    → wants setup (with_calls pending tag) epoch (removing (root_hold ∷ []) nothing_told 0) ≡ AskFor 16 (NameKey 1 name ∷ NodeKey 1 ∷ [])
unfolding wants refused run ◌>>=◌ checked u32_text u64_text u32_at u64_at zero_at form_text form_at magic_at handle_of carrier
wants_name pending tag = refl

pub wants_file_lock : (pending : FinMap nat_cmp Waiting) → wants setup (with_calls pending 5) epoch (removing (root_hold ∷ []) with_name_told 11) ≡ Lock (file_hold ∷ [])
unfolding wants refused run ◌>>=◌ checked unhurried effect u32_text u64_text u32_at u64_at zero_at form_text form_at magic_at handle_of carrier
wants_file_lock pending = refl

-- what follows once the file has no unstable writes
abbrev unless_dirty : Want → Option Dirty → Want
unless_dirty next o = or_want (flush_by (if is_some o then Some 2 else None)) next

pub wants_file :
    (dirty : FinMap nat_cmp Dirty) (pending : FinMap nat_cmp Waiting) (boots : FinMap nat_cmp ℕ) → get dirty 2 ≡ None
    → wants setup (with_dirty dirty pending 5 boots) epoch (removing (root_hold ∷ file_hold ∷ []) with_name_told 11) ≡ AskFor 16 (NodeKey 2 ∷ [])
unfolding wants refused run ◌>>=◌ checked unhurried effect u32_text u64_text u32_at u64_at zero_at form_text form_at magic_at handle_of carrier
wants_file dirty pending boots none = ap (unless_dirty (AskFor 16 (NodeKey 2 ∷ []))) none

pub wants_remove :
    (dirty : FinMap nat_cmp Dirty) (pending : FinMap nat_cmp Waiting) (boots : FinMap nat_cmp ℕ) → get dirty 2 ≡ None
    → wants setup (with_dirty dirty pending 6 boots) epoch (removing (root_hold ∷ file_hold ∷ []) with_file_told 13) ≡ ForwardEffect 16 0
unfolding wants refused run ◌>>=◌ checked unhurried effect cell_changes u32_text u64_text u32_at u64_at zero_at form_text form_at magic_at handle_of carrier
wants_remove dirty pending boots none = ap (unless_dirty (ForwardEffect 16 0)) none

-- the second time the call changes nothing
pub wants_answer :
    (pending : FinMap nat_cmp Waiting)
    → wants setup (with_calls pending 8) epoch (removing (root_hold ∷ []) with_gone_told 18)
    ≡ Answer (record { answer = reply.Remove status.NoEnt no_wcc; did = Some no_fileid; mark = AtOnce })
unfolding wants refused run ◌>>=◌ checked unhurried effect cell_changes u32_text u64_text u32_at u64_at zero_at form_text form_at magic_at handle_of carrier
wants_answer pending = refl

-- ---- what the server does

abbrev pub outcome : Outcome
outcome = model.removal full_root name new_node epoch

-- the root is there, and the name and the file that it leads to
pub has_file : (c : Cells) → get c.objects 1 ≡ Some (object_cell full_root []) → get c.names (1, name) ≡ Some new_name → get c.objects 2 ≡ Some (object_cell new_node [])
    → run (sight_of c) (plan (the_remove 0) nobody epoch no_fileid) ≡ Ok outcome
unfolding ◌>>=◌ checked u32_text u64_text u32_at u64_at zero_at form_text form_at magic_at handle_of
has_file c root named file =
    run_want (sight_of c) _ _
    ∙ (run_look (sight_of c) 1 _ _ (ap (λ o. option_map node_of o) root)
    ∙ (run_find (sight_of c) 1 name _ _ (ap (λ o. option_map entry_of o) named)
    ∙ (run_see (sight_of c) 2 _ _ (ap (λ o. option_map node_of o) file) ∙ run_done (sight_of c) outcome)))

-- the cells that change and go, with this text of a link
abbrev with_link : List ℕ → List Change
with_link root = change.PutAttr (object_cell emptied_root root) ∷ change.TakeName 1 name ∷ change.TakeAttr 2 ∷ []

pub changes_cells : (c : Cells) → get c.objects 1 ≡ Some (object_cell full_root []) → cell_changes (gathered_of c) (the_remove 0) outcome.changes ≡ gone_cells
unfolding cell_changes
changes_cells c root = ap (λ o. with_link (link_of o)) root

pub is_outer : outer_call (the_remove 16) ≡ the_remove 0
unfolding u32_text u64_text u32_at u64_at zero_at form_text form_at magic_at internal_of
is_outer = refl

-- ---- what the proxy reads

pub is_read : reply_in 12 (remove_reply 6 status.Ok) ≡ Some (reply.Remove status.Ok no_wcc)
unfolding reply_in results_in word_at reply_of reply_at wcc_at wcc_attr_at optional_at part_at wcc_text optional_text status_at fattr_at fattr_front_at fattr_place_at fattr_times_at time_at kind_at accepted_text u32_text u64_text u32_at u64_at
is_read = refl
