-- What the packets of a stable WRITE say, by computing.
use Rattle.std.proofs.Common.{◌≡◌, ℕ, true, List, [], ◌∷◌, Option, Some, None, is_some, refl, ap, if◌then◌else◌}
use Rattle.std.specs.Ordering.{nat_cmp}
use Rattle.std.specs.FinMap.{FinMap, get}
use Rattle.sl_defs.specs.Items.{u32_text, u64_text, u32_at, u64_at, opaque_at}
use Rattle.sl_defs.specs.Rpc.{call_header_at, auth_at, zero_at, refusal_of}
use Rattle.sl_types.specs.Handles.{form_text, form_at, magic_at, handle_of}
use Rattle.sl_types.specs.declared.call.Call.{Call}
use Rattle.sl_types.specs.declared.call.Call.TheVariants as call
use Rattle.sl_types.specs.declared.call.Stable.{Stable}
use Rattle.sl_types.specs.declared.call.Stable.TheVariants as stable
use Rattle.sl_rpc.specs.Heads.{nobody}
use Rattle.sl_items.specs.Reading.{fh_at, bytes_at, stable_at}
use Rattle.sl_calls.specs.Reading.{args_at, write_at}
use Rattle.sl_cells.specs.declared.keys.CellKey.TheVariants as key
use Rattle.sl_frames.specs.declared.found.FoundCell.TheVariants as cell
use Rattle.sl_model.specs.Plan.{run, ◌>>=◌, NodeKey}
use Rattle.sl_model.specs.Changing as model
use Rattle.sl_history.specs.Arrivals.{datagram, Asked, IsAsked}
use Rattle.sl_history.specs.Placing.{carrier}
use Rattle.sl_machine.specs.Memory.{Hold, Told, Waiting, Dirty, Proxy, nothing_told, dirty_attributes}
use Rattle.sl_machine.specs.Calls.{refused, sought}
use Rattle.sl_machine.specs.Knowing.{effect, known}
use Rattle.sl_machine.specs.Parts.{cell_changes, object_cell, write_parts}
use Rattle.sl_machine.specs.Wants.{Want, wants, Lock, FlushFirst, AskFor, Operate, or_want, recall_by}
use Rattle.sl_witness.specs.Histories.{setup, epoch, fence}
use Rattle.sl_operations.specs.Histories.{file_handle, new_node, written_bytes, write_call, write_answer, part, new_attributes, new_bytes, kept_write}
use Rattle.sl_operations.proofs.Creating.{file_hold}

abbrev pub the_write : ℕ → Stable → Call
the_write last asked = call.Write (file_handle last) 0 2 asked written_bytes

abbrev pub write_asked : Stable → Asked
write_asked asked = record { xid = 8; procedure = 7; call = the_write 0 asked; cred = nobody }

pub stable_is_asked : datagram (write_call 8 0 2) ≡ IsAsked (write_asked stable.FileSync)
unfolding datagram call_header_at u32_text u64_text u32_at u64_at opaque_at auth_at zero_at refusal_of args_at fh_at bytes_at stable_at form_text write_at
stable_is_asked = refl

-- ---- what the call wants

-- a welcomed proxy with these unstable files, and no other attributes
abbrev pub with_dirty : FinMap nat_cmp Dirty → FinMap nat_cmp Waiting → ℕ → FinMap nat_cmp ℕ → Proxy
with_dirty dirty pending tag boots = record { fence = fence; welcomed = true; pending = pending; soft = record { clean = []; dirty = dirty }; boots = boots; next_tag = tag }

abbrev pub with_file_told : Told
with_file_told = record nothing_told { cells = (key.Attr 2, cell.Attr (object_cell new_node [])) ∷ [] }

abbrev pub writing : ℕ → Stable → List Hold → Told → ℕ → Waiting
writing stability asked held told e = record {
  client = 0;
  packet = write_call 8 0 stability;
  asked = write_asked asked;
  held = held;
  awaits = [];
  request = None;
  told = told;
  answered = e;
}

abbrev stably : List Hold → Told → ℕ → Waiting
stably = writing 2 stable.FileSync

pub wants_lock :
    (dirty : FinMap nat_cmp Dirty) (pending : FinMap nat_cmp Waiting) (boots : FinMap nat_cmp ℕ)
    → wants setup (with_dirty dirty pending 4 boots) epoch (stably [] nothing_told 0) ≡ Lock (file_hold ∷ [])
unfolding wants refused run ◌>>=◌ model.write_in u32_text u64_text u32_at u64_at zero_at form_text form_at magic_at handle_of
wants_lock dirty pending boots = refl

-- the file's cell, by the file's unstable writes
abbrev cell_by : Option Dirty → Want
cell_by o = or_want (if is_some o then Some (FlushFirst 2) else None) (or_want (recall_by 2 (dirty_attributes o None)) (AskFor 16 (NodeKey 2 ∷ [])))

pub wants_cell :
    (dirty : FinMap nat_cmp Dirty) (pending : FinMap nat_cmp Waiting) (boots : FinMap nat_cmp ℕ) → get dirty 2 ≡ None
    → wants setup (with_dirty dirty pending 4 boots) epoch (stably (file_hold ∷ []) nothing_told 0) ≡ AskFor 16 (NodeKey 2 ∷ [])
unfolding wants refused run ◌>>=◌ model.write_in effect u32_text u64_text u32_at u64_at zero_at form_text form_at magic_at handle_of carrier
wants_cell dirty pending boots none = ap cell_by none

abbrev intent_by : Option Dirty → Want
intent_by o = or_want (if is_some o then Some (FlushFirst 2) else None) (Operate kept_write (part 16 new_attributes ∷ part 32 new_bytes ∷ []))

pub wants_intent :
    (dirty : FinMap nat_cmp Dirty) (pending : FinMap nat_cmp Waiting) (boots : FinMap nat_cmp ℕ) → get dirty 2 ≡ None
    → wants setup (with_dirty dirty pending 5 boots) epoch (stably (file_hold ∷ []) with_file_told 11) ≡ Operate kept_write (part 16 new_attributes ∷ part 32 new_bytes ∷ [])
unfolding wants refused run ◌>>=◌ model.write_in effect cell_changes write_parts u32_text u64_text u32_at u64_at zero_at form_text form_at magic_at handle_of carrier
wants_intent dirty pending boots none = ap intent_by none

-- the reply is the effect's
pub is_operated : (effect (known fence with_file_told) (sought (the_write 0 stable.FileSync)) (the_write 0 stable.FileSync) nobody epoch kept_write).answer ≡ write_answer
unfolding effect run ◌>>=◌ model.write_in u32_text u64_text u32_at u64_at zero_at form_text form_at magic_at handle_of
is_operated = refl
