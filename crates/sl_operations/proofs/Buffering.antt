-- What the packets of an unstable WRITE and of a COMMIT say, by computing.
use Rattle.std.proofs.Common.{◌≡◌, ℕ, not, ◌&&◌, nat_le, List, [], ◌∷◌, ◌++◌, Option, Some, None, is_some, refl, ap, ◌∙◌, if◌then◌else◌}
use Rattle.std.specs.Ordering.{nat_cmp}
use Rattle.std.specs.FinMap.{FinMap, get, len}
use Rattle.sl_defs.specs.Items.{u32_text, u64_text, u32_at, u64_at, opaque_at}
use Rattle.sl_defs.specs.Parts.{optional_text, optional_at, part_at}
use Rattle.sl_defs.specs.Rpc.{call_header_at, auth_at, zero_at, refusal_of, accepted_text}
use Rattle.sl_types.specs.Handles.{form_text, form_at, magic_at, handle_of, internal_of}
use Rattle.sl_types.specs.declared.call.Stable.TheVariants as stable
use Rattle.sl_rpc.specs.Heads.{nobody}
use Rattle.sl_items.specs.Reading.{fh_at, bytes_at, stable_at, kind_at, time_at, fattr_front_at, fattr_place_at, fattr_times_at, fattr_at}
use Rattle.sl_items.specs.Spelling.{time_text, fattr_front_text, fattr_place_text, fattr_times_text, fattr_text}
use Rattle.sl_calls.specs.Reading.{args_at, write_at}
use Rattle.sl_replies.specs.Reading.{status_at, wcc_attr_at, wcc_at, result_at, write_ok_at, reply_at, reply_of}
use Rattle.sl_replies.specs.Texts.{wcc_text, write_ok_text, reply_text}
use Rattle.sl_edit.specs.Spans.{span_of, word_at, fh_span, args_in, handle_from, second_from, handle_span, results_in}
use Rattle.sl_model.specs.Plan.{run, ◌>>=◌, NodeKey}
use Rattle.sl_model.specs.Changing as model
use Rattle.sl_history.specs.Arrivals.{datagram, Asked, IsAsked}
use Rattle.sl_history.specs.Legal.{no_choice}
use Rattle.sl_history.specs.Placing.{carrier}
use Rattle.sl_machine.specs.Memory.{Hold, Told, Waiting, Dirty, nothing_told, dirty_attributes, writes_by}
use Rattle.sl_machine.specs.Calls.{refused, sought}
use Rattle.sl_machine.specs.Knowing.{effect, known}
use Rattle.sl_machine.specs.Parts.{cell_changes, write_parts}
use Rattle.sl_machine.specs.Wants.{Want, wants, Lock, FlushFirst, AskFor, ForwardWrite, Operate, or_want, recall_by}
use Rattle.sl_machine.specs.Packets.{forwarded, forwarded_write, outer_call, reply_in}
use Rattle.sl_machine.specs.Packets as packets
use Rattle.sl_witness.specs.Histories.{setup, epoch, fence}
use Rattle.sl_operations.specs.Histories.{write_call, small_last, unstable_answer, part, new_attributes, new_bytes, kept_write}
use Rattle.sl_operations.proofs.Creating.{file_hold}
use Rattle.sl_operations.proofs.Writing.{the_write, write_asked, writing, with_dirty, with_file_told}

pub unstable_is_asked : datagram (write_call 8 0 0) ≡ IsAsked (write_asked stable.Unstable)
unfolding datagram call_header_at u32_text u64_text u32_at u64_at opaque_at auth_at zero_at refusal_of args_at fh_at bytes_at stable_at form_text write_at
unstable_is_asked = refl

abbrev pub server_asked : Asked
server_asked = record { xid = 5; procedure = 7; call = the_write small_last stable.Unstable; cred = nobody }

pub server_is_asked : datagram (write_call 5 small_last 0) ≡ IsAsked server_asked
unfolding datagram call_header_at u32_text u64_text u32_at u64_at opaque_at auth_at zero_at refusal_of args_at fh_at bytes_at stable_at form_text write_at
server_is_asked = refl

pub is_forwarded : forwarded_write 32 5 2 (the_write 0 stable.Unstable) (write_call 8 0 0) ≡ write_call 5 small_last 0
unfolding forwarded_write forwarded call_header_at u32_text u64_text u32_at u64_at opaque_at auth_at zero_at refusal_of fh_at form_text form_at magic_at handle_of span_of fh_span args_in handle_from second_from handle_span
is_forwarded = refl

pub is_outer : outer_call (the_write small_last stable.Unstable) ≡ the_write 0 stable.Unstable
unfolding u32_text u64_text u32_at u64_at zero_at form_text form_at magic_at internal_of
is_outer = refl

-- ---- what the WRITE wants

abbrev unstably : List Hold → Told → ℕ → Waiting
unstably = writing 0 stable.Unstable

pub wants_lock :
    (dirty : FinMap nat_cmp Dirty) (pending : FinMap nat_cmp Waiting) (boots : FinMap nat_cmp ℕ)
    → wants setup (with_dirty dirty pending 4 boots) epoch (unstably [] nothing_told 0) ≡ Lock (file_hold ∷ [])
unfolding wants refused run ◌>>=◌ model.write_in u32_text u64_text u32_at u64_at zero_at form_text form_at magic_at handle_of
wants_lock dirty pending boots = refl

abbrev cell_by : Option Dirty → Want
cell_by o = or_want (recall_by 2 (dirty_attributes o None)) (AskFor 16 (NodeKey 2 ∷ []))

pub wants_cell :
    (dirty : FinMap nat_cmp Dirty) (pending : FinMap nat_cmp Waiting) (boots : FinMap nat_cmp ℕ) → get dirty 2 ≡ None
    → wants setup (with_dirty dirty pending 4 boots) epoch (unstably (file_hold ∷ []) nothing_told 0) ≡ AskFor 16 (NodeKey 2 ∷ [])
unfolding wants refused run ◌>>=◌ model.write_in effect u32_text u64_text u32_at u64_at zero_at form_text form_at magic_at handle_of carrier
wants_cell dirty pending boots none = ap cell_by none

-- the WRITE goes to the small-file server, by the file's unstable writes and the number of files with some
abbrev write_by : Option Dirty → ℕ → Want
write_by o files =
    if not (is_some o) && nat_le 1024 files then Operate kept_write (part 16 new_attributes ∷ part 32 new_bytes ∷ [])
    else if nat_le 32 (writes_by o) then FlushFirst 2
    else ForwardWrite 32 2

pub wants_write :
    (dirty : FinMap nat_cmp Dirty) (pending : FinMap nat_cmp Waiting) (boots : FinMap nat_cmp ℕ) → get dirty 2 ≡ None → len dirty ≡ 0
    → wants setup (with_dirty dirty pending 5 boots) epoch (unstably (file_hold ∷ []) with_file_told 11) ≡ ForwardWrite 32 2
unfolding wants refused run ◌>>=◌ model.write_in effect cell_changes write_parts u32_text u64_text u32_at u64_at zero_at form_text form_at magic_at handle_of carrier
wants_write dirty pending boots none empty = ap (λ o. write_by o (len dirty)) none ∙ ap (write_by None) empty

-- ---- what its answer means

pub is_read : reply_in 7 (accepted_text 5 0 ++ reply_text (packets.write_reply 2)) ≡ Some (packets.write_reply 2)
unfolding reply_in results_in word_at reply_of reply_at result_at write_ok_at write_ok_text stable_at status_at wcc_at wcc_attr_at optional_at part_at wcc_text optional_text fattr_at fattr_front_at fattr_place_at fattr_times_at time_at kind_at accepted_text u32_text u64_text u32_at u64_at fattr_text fattr_front_text fattr_place_text fattr_times_text time_text
is_read = refl

pub is_unstable : (effect (known fence with_file_told) (sought (the_write 0 stable.Unstable)) (the_write 0 stable.Unstable) nobody epoch no_choice).answer ≡ unstable_answer
unfolding effect run ◌>>=◌ model.write_in u32_text u64_text u32_at u64_at zero_at form_text form_at magic_at handle_of
is_unstable = refl
