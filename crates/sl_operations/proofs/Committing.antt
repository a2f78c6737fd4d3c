-- What the packets of a COMMIT say, by computing.
use Rattle.std.proofs.Common.{◌≡◌, ℕ, List, [], ◌∷◌, Option, Some, None, is_some, refl, ap, if◌then◌else◌}
use Rattle.sl_defs.specs.Items.{u32_text, u64_text, u32_at, u64_at, opaque_at}
use Rattle.sl_defs.specs.Rpc.{call_header_at, auth_at, zero_at, refusal_of}
use Rattle.sl_types.specs.Handles.{form_text, form_at, magic_at, handle_of}
use Rattle.sl_types.specs.declared.call.Call.{Call}
use Rattle.sl_types.specs.declared.call.Call.TheVariants as call
use Rattle.sl_rpc.specs.Heads.{nobody}
use Rattle.sl_items.specs.Reading.{fh_at}
use Rattle.sl_calls.specs.Reading.{args_at, commit_at}
use Rattle.sl_model.specs.Looking.{attributes}
use Rattle.sl_model.specs.Plan.{run, ◌>>=◌, NodeKey}
use Rattle.sl_history.specs.Arrivals.{datagram, Asked, IsAsked}
use Rattle.sl_history.specs.Placing.{carrier}
use Rattle.sl_machine.specs.Memory.{Hold, Told, Waiting, Dirty, Soft, nothing_told, dirty_attributes}
use Rattle.sl_machine.specs.Calls.{refused}
use Rattle.sl_machine.specs.Knowing.{effect}
use Rattle.sl_machine.specs.Wants.{Want, wants, Lock, Recall, FlushFirst, AskFor, Answer, AtOnce, or_want, recall_by}
use Rattle.sl_witness.specs.Histories.{setup, epoch}
use Rattle.sl_operations.specs.Histories.{file_handle, written_node, commit_call, commit_answer}
use Rattle.sl_operations.proofs.Maps.{of, got}
use Rattle.sl_operations.proofs.Singly.{with_one}
use Rattle.sl_operations.proofs.Creating.{file_hold}
use Rattle.sl_operations.proofs.Buffers.{the_dirt, soft_dirty, first_boots}

abbrev pub the_commit : Call
the_commit = call.Commit (file_handle 0) 0 0

abbrev pub commit_asked : Asked
commit_asked = record { xid = 9; procedure = 21; call = the_commit; cred = nobody }

pub commit_is_asked : datagram (commit_call 9 0) ≡ IsAsked commit_asked
unfolding datagram call_header_at u32_text u64_text u32_at u64_at opaque_at auth_at zero_at refusal_of args_at fh_at form_text commit_at
commit_is_asked = refl

-- ---- what the call wants

abbrev pub with_own_told : Told
with_own_told = record nothing_told { attributes = Some (attributes written_node) }

-- once it is flushed, the file's attributes are remembered
abbrev pub soft_clean : Soft
soft_clean = record { clean = attributes written_node ∷ []; dirty = of [] }

abbrev pub committing : List Hold → Told → ℕ → Waiting
committing held told e = record { client = 0; packet = commit_call 9 0; asked = commit_asked; held = held; awaits = []; request = None; told = told; answered = e }

pub wants_lock : (n : ℕ) → wants setup (with_one soft_dirty first_boots n (committing [] nothing_told 0) 6) epoch (committing [] nothing_told 0) ≡ Lock (file_hold ∷ [])
unfolding wants refused run ◌>>=◌ u32_text u64_text u32_at u64_at zero_at form_text form_at magic_at handle_of
wants_lock n = refl

-- a flush, or else the file's attributes, by its unstable writes
abbrev flush_by : Option Dirty → Want
flush_by o = or_want (if is_some o then Some (FlushFirst 2) else None) (or_want (recall_by 2 (dirty_attributes o None)) (AskFor 16 (NodeKey 2 ∷ [])))

pub wants_flush : (n : ℕ) → wants setup (with_one soft_dirty first_boots n (committing (file_hold ∷ []) nothing_told 0) 6) epoch (committing (file_hold ∷ []) nothing_told 0) ≡ FlushFirst 2
unfolding wants refused run ◌>>=◌ effect u32_text u64_text u32_at u64_at zero_at form_text form_at magic_at handle_of carrier
wants_flush n = ap flush_by (got ((2, the_dirt) ∷ []) 2 (Some the_dirt) refl)

abbrev recall_or : Option Dirty → Want
recall_or o =
    or_want (if is_some o then Some (FlushFirst 2) else None)
    (or_want (recall_by 2 (dirty_attributes o (Some (attributes written_node)))) (AskFor 16 (NodeKey 2 ∷ [])))

pub wants_recall :
    (n e : ℕ) → wants setup (with_one soft_clean first_boots n (committing (file_hold ∷ []) nothing_told e) 7) epoch (committing (file_hold ∷ []) nothing_told e) ≡ Recall 2
unfolding wants refused run ◌>>=◌ effect u32_text u64_text u32_at u64_at zero_at form_text form_at magic_at handle_of carrier
wants_recall n e = ap recall_or (got [] 2 None refl)

abbrev pub the_answer : Want
the_answer = Answer (record { answer = commit_answer; did = None; mark = AtOnce })

abbrev answer_by : Option Dirty → Want
answer_by o = or_want (if is_some o then Some (FlushFirst 2) else None) the_answer

pub wants_answer :
    (n e : ℕ) → wants setup (with_one soft_clean first_boots n (committing (file_hold ∷ []) with_own_told e) 7) epoch (committing (file_hold ∷ []) with_own_told e) ≡ the_answer
unfolding wants refused run ◌>>=◌ effect u32_text u64_text u32_at u64_at zero_at form_text form_at magic_at handle_of carrier
wants_answer n e = ap answer_by (got [] 2 None refl)
