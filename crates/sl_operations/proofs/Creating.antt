-- What the packets of a CREATE say, by computing.
use Rattle.std.proofs.Common.{◌≡◌, ℕ, true, false, List, [], ◌∷◌, Option, option_map, Some, None, Ok, refl, ap, ◌∙◌}
use Rattle.std.specs.Ordering.{nat_cmp}
use Rattle.std.specs.FinMap.{FinMap, get}
use Rattle.sl_defs.specs.Items.{u32_text, u64_text, u32_at, u64_at, opaque_at, opaque_text}
use Rattle.sl_defs.specs.Parts.{optional_text, optional_at, part_at}
use Rattle.sl_defs.specs.Rpc.{call_header_at, auth_at, zero_at, refusal_of, accepted_text}
use Rattle.sl_types.specs.Handles.{form_text, form_at, magic_at, handle_of, internal_of}
use Rattle.sl_types.specs.declared.call.Call.{Call}
use Rattle.sl_types.specs.declared.call.Call.TheVariants as call
use Rattle.sl_types.specs.declared.call.CreateHow.TheVariants as how
use Rattle.sl_rpc.specs.Heads.{nobody}
use Rattle.sl_items.specs.Reading.{fh_at, bytes_at, sattr_at, set_time_at, given_time_at, time_at}
use Rattle.sl_items.specs.Spelling.{set_time_text, sattr_text}
use Rattle.sl_calls.specs.Reading.{args_at, create_at, dir_op_at, create_how_at, create_arm_at}
use Rattle.sl_edit.specs.Spans.{span_of, word_at, fh_span, args_in, handle_from, second_from, handle_span, results_in}
use Rattle.sl_model.specs.Changing.{nothing_given}
use Rattle.sl_history.specs.Arrivals.{datagram, Asked, IsAsked}
use Rattle.sl_defs.specs.declared.note.Choice.{Choice}
use Rattle.sl_items.specs.Reading.{kind_at, fattr_front_at, fattr_place_at, fattr_times_at, fattr_at}
use Rattle.sl_items.specs.Spelling.{time_text, fattr_front_text, fattr_place_text, fattr_times_text, fattr_text}
use Rattle.sl_replies.specs.Reading.{status_at, wcc_attr_at, wcc_at, result_at, make_ok_at, reply_at, reply_of}
use Rattle.sl_replies.specs.Texts.{wcc_text, make_ok_text}
use Rattle.sl_cells.specs.declared.keys.CellKey.TheVariants as key
use Rattle.sl_cells.specs.declared.changes.Change.{Change}
use Rattle.sl_cells.specs.declared.changes.Change.TheVariants as change
use Rattle.sl_frames.specs.declared.found.FoundCell.TheVariants as cell
use Rattle.sl_model.specs.declared.node.Entry.{Entry}
use Rattle.sl_model.specs.Plan.{Plan, Find, Want, Key, Sight, run, ◌>>=◌, NodeKey, NameKey}
use Rattle.sl_model.specs.Checks.{checked}
use Rattle.sl_model.specs.Looking.{Outcome}
use Rattle.sl_model.specs.Changing.{cookie_in, entry_to}
use Rattle.sl_model.specs.Changing as model
use Rattle.sl_model.specs.Perform.{new_root}
use Rattle.sl_model.specs.Procedures.{plan}
use Rattle.sl_history.specs.Placing.{carrier}
use Rattle.sl_history.specs.Wired.{name_cell}
use Rattle.sl_machine.specs.Records.{Cells, root_cell}
use Rattle.sl_machine.specs.Memory.{Hold, Told, Waiting, nothing_told}
use Rattle.sl_machine.specs.Calls.{refused}
use Rattle.sl_machine.specs.Knowing.{node_of, entry_of, effect, unhurried}
use Rattle.sl_machine.specs.Parts.{cell_changes, object_cell}
use Rattle.sl_machine.specs.Wants.{wants, Lock, AskFor, MintAt, ForwardEffect}
use Rattle.sl_machine.specs.Packets.{outer_call}
use Rattle.sl_machine.specs.Directories.{sight_of, gathered_of, link_of}
use Rattle.sl_witness.proofs.Packets.{with_calls, run_look, run_done}
use Rattle.sl_operations.specs.Histories.{full_root, new_node, new_cells, create_answer, create_reply}
use Rattle.sl_machine.specs.Packets.{forwarded, reply_in}
use Rattle.sl_witness.specs.Histories.{setup, epoch, root_handle}
use Rattle.sl_operations.specs.Histories.{name, create_call}

abbrev pub the_create : ℕ → Call
the_create last = call.Create (root_handle last) name (how.Unchecked nothing_given)

abbrev pub client_asked : Asked
client_asked = record { xid = 7; procedure = 8; call = the_create 0; cred = nobody }

abbrev pub server_asked : Asked
server_asked = record { xid = 3; procedure = 8; call = the_create 16; cred = nobody }

pub client_is_asked : datagram (create_call 7 0) ≡ IsAsked client_asked
unfolding datagram call_header_at u32_text u64_text u32_at u64_at opaque_at auth_at zero_at refusal_of args_at fh_at bytes_at form_text create_at dir_op_at create_how_at create_arm_at sattr_at set_time_at given_time_at time_at optional_at part_at sattr_text set_time_text optional_text
client_is_asked = refl

pub server_is_asked : datagram (create_call 3 16) ≡ IsAsked server_asked
unfolding datagram call_header_at u32_text u64_text u32_at u64_at opaque_at auth_at zero_at refusal_of args_at fh_at bytes_at form_text create_at dir_op_at create_how_at create_arm_at sattr_at set_time_at given_time_at time_at optional_at part_at sattr_text set_time_text optional_text
server_is_asked = refl

pub is_forwarded : forwarded 16 3 (the_create 0) (create_call 7 0) ≡ create_call 3 16
unfolding forwarded call_header_at u32_text u64_text u32_at u64_at opaque_at auth_at zero_at refusal_of fh_at form_text form_at magic_at handle_of span_of fh_span args_in handle_from second_from handle_span sattr_text set_time_text optional_text
is_forwarded = refl

-- ---- what the call wants

abbrev pub root_hold : Hold
root_hold = record { key = record { fileid = 1; dir = true }; alone = true }

abbrev pub file_hold : Hold
file_hold = record { key = record { fileid = 2; dir = false }; alone = true }

abbrev pub with_name_told : Told
with_name_told = record nothing_told { cells = (key.Name 1 name, cell.Absent) ∷ (key.Attr 1, cell.Attr (root_cell 1)) ∷ [] }

abbrev pub with_id_told : Told
with_id_told = record with_name_told { minted = Some 2 }

abbrev pub creating : List Hold → Told → ℕ → Waiting
creating held told e = record { client = 0; packet = create_call 7 0; asked = client_asked; held = held; awaits = []; request = None; told = told; answered = e }

pub wants_lock : (pending : FinMap nat_cmp Waiting) → wants setup (with_calls pending 1) epoch (creating [] nothing_told 0) ≡ Lock (root_hold ∷ [])
unfolding wants refused run ◌>>=◌ checked u32_text u64_text u32_at u64_at zero_at form_text form_at magic_at handle_of
wants_lock pending = refl

pub wants_name : (pending : FinMap nat_cmp Waiting) → wants setup (with_calls pending 1) epoch (creating (root_hold ∷ []) nothing_told 0) ≡ AskFor 16 (NameKey 1 name ∷ NodeKey 1 ∷ [])
unfolding wants refused run ◌>>=◌ checked u32_text u64_text u32_at u64_at zero_at form_text form_at magic_at handle_of carrier
wants_name pending = refl

pub wants_id : (pending : FinMap nat_cmp Waiting) → wants setup (with_calls pending 2) epoch (creating (root_hold ∷ []) with_name_told 4) ≡ MintAt 0
unfolding wants refused run ◌>>=◌ checked model.create_at unhurried effect u32_text u64_text u32_at u64_at zero_at form_text form_at magic_at handle_of carrier
wants_id pending = refl

pub wants_new_lock : (pending : FinMap nat_cmp Waiting) → wants setup (with_calls pending 3) epoch (creating (root_hold ∷ []) with_id_told 6) ≡ Lock (file_hold ∷ [])
unfolding wants refused run ◌>>=◌ checked model.create_at unhurried effect u32_text u64_text u32_at u64_at zero_at form_text form_at magic_at handle_of carrier
wants_new_lock pending = refl

pub wants_create : (pending : FinMap nat_cmp Waiting) → wants setup (with_calls pending 3) epoch (creating (root_hold ∷ file_hold ∷ []) with_id_told 6) ≡ ForwardEffect 16 2
unfolding wants refused run ◌>>=◌ checked model.create_at unhurried effect cell_changes u32_text u64_text u32_at u64_at zero_at form_text form_at magic_at handle_of carrier
wants_create pending = refl

-- ---- what the server does

abbrev pub outcome : Outcome
outcome = model.creating (new_root 1) name (how.Unchecked nothing_given) nobody epoch 2

abbrev pub the_choice : Choice
the_choice = record { fileid = 2; kept = false }

pub run_find : {A : Type 0} (s : Sight) (d : ℕ) (n : List ℕ) (k : Option Entry → Plan A) (o : Option Entry) → s.find d n ≡ o → run s (Find d n k) ≡ run s (k o)
unfolding run
run_find s d n k o e = ap (λ o. run s (k o)) e

pub run_want : {A : Type 0} (s : Sight) (ks : List Key) (p : Plan A) → run s (Want ks p) ≡ run s p
unfolding run
run_want s ks p = refl

-- the root is there, and no such name
pub has_no_name : (c : Cells) → get c.objects 1 ≡ Some (root_cell 1) → get c.names (1, name) ≡ None
    → run (sight_of c) (plan (the_create 0) nobody epoch the_choice) ≡ Ok outcome
unfolding ◌>>=◌ checked model.create_at u32_text u64_text u32_at u64_at zero_at form_text form_at magic_at handle_of
has_no_name c is none =
    run_want (sight_of c) _ _
    ∙ (run_look (sight_of c) 1 _ _ (ap (λ o. option_map node_of o) is)
    ∙ (run_find (sight_of c) 1 name _ _ (ap (λ o. option_map entry_of o) none) ∙ run_done (sight_of c) outcome))

-- the new cells, with these texts of links
abbrev with_links : List ℕ → List ℕ → List Change
with_links root made =
    change.PutAttr (object_cell full_root root)
    ∷ change.PutName (name_cell 1 name (entry_to new_node (cookie_in (new_root 1))))
    ∷ change.PutAttr (object_cell new_node made) ∷ []

pub changes_cells : (c : Cells) → get c.objects 1 ≡ Some (root_cell 1) → get c.objects 2 ≡ None
    → cell_changes (gathered_of c) (the_create 0) outcome.changes ≡ new_cells
unfolding cell_changes
changes_cells c is none =
    ap (λ o. with_links (link_of o) (link_of (get c.objects 2))) is ∙ ap (λ o. with_links [] (link_of o)) none

pub is_outer : outer_call (the_create 16) ≡ the_create 0
unfolding u32_text u64_text u32_at u64_at zero_at form_text form_at magic_at internal_of
is_outer = refl

-- ---- what the proxy reads

pub is_read : reply_in 8 (create_reply 3 16) ≡ Some (create_answer 16)
unfolding reply_in results_in word_at reply_of reply_at result_at make_ok_at make_ok_text wcc_at wcc_attr_at optional_at part_at wcc_text optional_text status_at fattr_at fattr_front_at fattr_place_at fattr_times_at time_at kind_at accepted_text u32_text u64_text u32_at u64_at opaque_at opaque_text fh_at form_text fattr_text fattr_front_text fattr_place_text fattr_times_text time_text
is_read = refl
