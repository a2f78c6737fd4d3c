-- What the packets of a SETATTR of the root say, by computing.
use Rattle.std.proofs.Common.{◌≡◌, ℕ, true, List, [], ◌∷◌, option_map, Some, None, Ok, refl, ap, ◌∙◌}
use Rattle.std.specs.Ordering.{nat_cmp}
use Rattle.std.specs.FinMap.{FinMap, get}
use Rattle.sl_defs.specs.Items.{u32_text, u64_text, u32_at, u64_at, opaque_at}
use Rattle.sl_defs.specs.Parts.{optional_text, optional_at, part_at}
use Rattle.sl_defs.specs.Rpc.{call_header_at, auth_at, zero_at, refusal_of, accepted_text}
use Rattle.sl_types.specs.Handles.{form_text, form_at, magic_at, handle_of}
use Rattle.sl_types.specs.declared.call.Call.{Call}
use Rattle.sl_types.specs.declared.call.Call.TheVariants as call
use Rattle.sl_rpc.specs.Heads.{nobody}
use Rattle.sl_items.specs.Reading.{fh_at, kind_at, time_at, sattr_at, set_time_at, given_time_at, fattr_front_at, fattr_place_at, fattr_times_at, fattr_at}
use Rattle.sl_items.specs.Spelling.{time_text, set_time_text, sattr_text, fattr_front_text, fattr_place_text, fattr_times_text, fattr_text}
use Rattle.sl_calls.specs.Reading.{args_at, setattr_at}
use Rattle.sl_replies.specs.Reading.{status_at, wcc_attr_at, wcc_at, reply_at, reply_of}
use Rattle.sl_replies.specs.Texts.{wcc_text}
use Rattle.sl_edit.specs.Spans.{span_of, word_at, fh_span, args_in, handle_from, second_from, handle_span, results_in}
use Rattle.sl_model.specs.Plan.{run, ◌>>=◌, NodeKey}
use Rattle.sl_model.specs.Looking.{Outcome}
use Rattle.sl_model.specs.Changing.{guarded, setting}
use Rattle.sl_model.specs.Perform.{new_root}
use Rattle.sl_model.specs.Procedures.{plan}
use Rattle.sl_cells.specs.declared.keys.CellKey.TheVariants as key
use Rattle.sl_cells.specs.declared.changes.Change.TheVariants as change
use Rattle.sl_frames.specs.declared.found.FoundCell.TheVariants as cell
use Rattle.sl_history.specs.Arrivals.{datagram, Asked, IsAsked}
use Rattle.sl_history.specs.Placing.{carrier}
use Rattle.sl_history.specs.Legal.{no_choice}
use Rattle.sl_machine.specs.Records.{Cells, root_cell}
use Rattle.sl_machine.specs.Memory.{Hold, Told, Waiting, nothing_told}
use Rattle.sl_machine.specs.Calls.{refused}
use Rattle.sl_machine.specs.Knowing.{node_of, effect, unhurried}
use Rattle.sl_machine.specs.Parts.{cell_changes, object_cell}
use Rattle.sl_machine.specs.Wants.{wants, Lock, AskFor, ForwardEffect}
use Rattle.sl_machine.specs.Packets.{forwarded, reply_in}
use Rattle.sl_machine.specs.Directories.{sight_of, gathered_of, link_of}
use Rattle.sl_witness.specs.Histories.{setup, epoch, root_handle, new_mode, change_call, changed_root, change_answer, change_reply}
use Rattle.sl_witness.proofs.Packets.{with_calls, run_look, run_see, run_done}

abbrev pub the_change : ℕ → Call
the_change last = call.Setattr (root_handle last) new_mode None

abbrev pub client_asked : Asked
client_asked = record { xid = 7; procedure = 2; call = the_change 0; cred = nobody }

abbrev pub server_asked : Asked
server_asked = record { xid = 2; procedure = 2; call = the_change 16; cred = nobody }

pub client_is_asked : datagram (change_call 7 0) ≡ IsAsked client_asked
unfolding datagram call_header_at u32_text u64_text u32_at u64_at opaque_at auth_at zero_at refusal_of args_at fh_at form_text setattr_at sattr_at set_time_at given_time_at time_at optional_at part_at sattr_text set_time_text optional_text
client_is_asked = refl

pub server_is_asked : datagram (change_call 2 16) ≡ IsAsked server_asked
unfolding datagram call_header_at u32_text u64_text u32_at u64_at opaque_at auth_at zero_at refusal_of args_at fh_at form_text setattr_at sattr_at set_time_at given_time_at time_at optional_at part_at sattr_text set_time_text optional_text
server_is_asked = refl

pub is_forwarded : forwarded 16 2 (the_change 0) (change_call 7 0) ≡ change_call 2 16
unfolding forwarded call_header_at u32_text u64_text u32_at u64_at opaque_at auth_at zero_at refusal_of fh_at form_text form_at magic_at handle_of span_of fh_span args_in handle_from second_from handle_span sattr_text set_time_text optional_text
is_forwarded = refl

-- ---- what the call wants

abbrev pub own_hold : Hold
own_hold = record { key = record { fileid = 1; dir = true }; alone = true }

abbrev pub with_root : Told
with_root = record nothing_told { cells = (key.Attr 1, cell.Attr (root_cell 1)) ∷ [] }

abbrev pub changing : List Hold → Told → ℕ → Waiting
changing held told e = record { client = 0; packet = change_call 7 0; asked = client_asked; held = held; awaits = []; request = None; told = told; answered = e }

pub wants_lock : (pending : FinMap nat_cmp Waiting) → wants setup (with_calls pending 1) epoch (changing [] nothing_told 0) ≡ Lock (own_hold ∷ [])
unfolding wants refused run ◌>>=◌ guarded u32_text u64_text u32_at u64_at zero_at form_text form_at magic_at handle_of
wants_lock pending = refl

pub wants_cell : (pending : FinMap nat_cmp Waiting) → wants setup (with_calls pending 1) epoch (changing (own_hold ∷ []) nothing_told 0) ≡ AskFor 16 (NodeKey 1 ∷ [])
unfolding wants refused run ◌>>=◌ guarded u32_text u64_text u32_at u64_at zero_at form_text form_at magic_at handle_of carrier
wants_cell pending = refl

pub wants_change : (pending : FinMap nat_cmp Waiting) → wants setup (with_calls pending 2) epoch (changing (own_hold ∷ []) with_root 4) ≡ ForwardEffect 16 0
unfolding wants refused run ◌>>=◌ guarded unhurried effect cell_changes u32_text u64_text u32_at u64_at zero_at form_text form_at magic_at handle_of carrier
wants_change pending = refl

-- ---- what the server does

abbrev pub outcome : Outcome
outcome = setting (new_root 1) new_mode epoch

pub has_root : (c : Cells) → get c.objects 1 ≡ Some (root_cell 1) → run (sight_of c) (plan (the_change 0) nobody epoch no_choice) ≡ Ok outcome
unfolding ◌>>=◌ guarded u32_text u64_text u32_at u64_at zero_at form_text form_at magic_at handle_of
has_root c is =
    run_look (sight_of c) 1 _ _ (ap (λ o. option_map node_of o) is) ∙ (run_see (sight_of c) 1 _ _ (ap (λ o. option_map node_of o) is) ∙ run_done (sight_of c) outcome)

pub changes_root : (c : Cells) → get c.objects 1 ≡ Some (root_cell 1)
    → cell_changes (gathered_of c) (the_change 0) outcome.changes ≡ change.PutAttr (object_cell changed_root []) ∷ []
unfolding cell_changes
changes_root c is = ap (λ o. change.PutAttr (object_cell changed_root (link_of o)) ∷ []) is

-- ---- what the proxy reads

pub is_read : reply_in 2 (change_reply 2) ≡ Some change_answer
unfolding reply_in results_in word_at reply_of reply_at status_at wcc_at wcc_attr_at optional_at part_at wcc_text optional_text fattr_at fattr_front_at fattr_place_at fattr_times_at time_at kind_at accepted_text u32_text u64_text u32_at u64_at fattr_text fattr_front_text fattr_place_text fattr_times_text time_text
is_read = refl
