-- What the packets of a GETATTR of the root say, by computing.
use Rattle.std.proofs.Common.{◌≡◌, ℕ, true, false, List, [], ◌∷◌, Option, Some, None, Ok, option_map, refl, ap, ◌∙◌}
use Rattle.std.specs.Ordering.{nat_cmp}
use Rattle.std.specs.FinMap.{FinMap, empty, get}
use Rattle.sl_defs.specs.Items.{u32_text, u64_text, u32_at, u64_at, opaque_at}
use Rattle.sl_defs.specs.Rpc.{call_header_at, auth_at, zero_at, refusal_of, accepted_text}
use Rattle.sl_types.specs.Handles.{form_text, form_at, magic_at, handle_of, internal_of}
use Rattle.sl_types.specs.declared.call.Call.TheVariants as call
use Rattle.sl_rpc.specs.Heads.{nobody}
use Rattle.sl_items.specs.Reading.{fh_at, kind_at, time_at, fattr_front_at, fattr_place_at, fattr_times_at, fattr_at}
use Rattle.sl_items.specs.Spelling.{time_text, fattr_front_text, fattr_place_text, fattr_times_text, fattr_text}
use Rattle.sl_calls.specs.Reading.{args_at}
use Rattle.sl_replies.specs.Reading.{status_at, result_at, reply_at, reply_of}
use Rattle.sl_edit.specs.Spans.{span_of, word_at, fh_span, args_in, handle_from, second_from, handle_span, results_in}
use Rattle.sl_model.specs.Plan.{Plan, Done, Look, See, Sight, run, ◌>>=◌}
use Rattle.sl_model.specs.Looking.{answering}
use Rattle.sl_model.specs.Procedures.{plan}
use Rattle.sl_model.specs.declared.node.Node.{Node}
use Rattle.sl_history.specs.Arrivals.{datagram, Asked, IsAsked}
use Rattle.sl_history.specs.Placing.{carrier}
use Rattle.sl_history.specs.Legal.{no_choice}
use Rattle.sl_machine.specs.Records.{Cells, root_cell}
use Rattle.sl_machine.specs.Memory.{Hold, Waiting, Proxy, nothing_told, no_soft}
use Rattle.sl_machine.specs.Calls.{refused}
use Rattle.sl_machine.specs.Knowing.{node_of}
use Rattle.sl_machine.specs.Wants.{wants, Lock, ForwardLook}
use Rattle.sl_machine.specs.Packets.{forwarded, outer_call, reply_in}
use Rattle.sl_machine.specs.Directories.{sight_of}
use Rattle.sl_witness.specs.Histories.{setup, epoch, fence, root_handle, root_call, root_answer, root_reply}

abbrev pub client_asked : Asked
client_asked = record { xid = 7; procedure = 1; call = call.Getattr (root_handle 0); cred = nobody }

abbrev pub server_asked : Asked
server_asked = record { xid = 1; procedure = 1; call = call.Getattr (root_handle 16); cred = nobody }

pub client_is_asked : datagram (root_call 7 0) ≡ IsAsked client_asked
unfolding datagram call_header_at u32_text u64_text u32_at opaque_at auth_at zero_at refusal_of args_at fh_at form_text
client_is_asked = refl

pub server_is_asked : datagram (root_call 1 16) ≡ IsAsked server_asked
unfolding datagram call_header_at u32_text u64_text u32_at opaque_at auth_at zero_at refusal_of args_at fh_at form_text
server_is_asked = refl

-- the xid becomes the tag, and the handle one among the servers
pub is_forwarded : forwarded 16 1 (call.Getattr (root_handle 0)) (root_call 7 0) ≡ root_call 1 16
unfolding forwarded call_header_at u32_text u64_text u32_at u64_at opaque_at auth_at zero_at refusal_of fh_at form_text form_at magic_at handle_of span_of fh_span args_in handle_from second_from handle_span
is_forwarded = refl

-- ---- what the call wants

abbrev pub root_hold : Hold
root_hold = record { key = record { fileid = 1; dir = true }; alone = false }

abbrev pub with_calls : FinMap nat_cmp Waiting → ℕ → Proxy
with_calls pending next = record { fence = fence; welcomed = true; pending = pending; soft = no_soft; boots = empty; next_tag = next }

abbrev pub waiting : List Hold → Waiting
waiting held = record { client = 0; packet = root_call 7 0; asked = client_asked; held = held; awaits = []; request = None; told = nothing_told; answered = 0 }

pub wants_lock : (pending : FinMap nat_cmp Waiting) → wants setup (with_calls pending 1) epoch (waiting []) ≡ Lock (root_hold ∷ [])
unfolding wants refused run ◌>>=◌ u32_text u64_text u32_at u64_at zero_at form_text form_at magic_at handle_of
wants_lock pending = refl

pub wants_look : (pending : FinMap nat_cmp Waiting) → wants setup (with_calls pending 1) epoch (waiting (root_hold ∷ [])) ≡ ForwardLook 16
unfolding wants refused run ◌>>=◌ u32_text u64_text u32_at u64_at zero_at form_text form_at magic_at handle_of carrier
wants_look pending = refl

-- ---- what the server answers

pub run_look : {A : Type 0} (s : Sight) (f : ℕ) (k : Option Node → Plan A) (o : Option Node) → s.look f ≡ o → run s (Look f k) ≡ run s (k o)
unfolding run
run_look s f k o e = ap (λ o. run s (k o)) e

pub run_see : {A : Type 0} (s : Sight) (f : ℕ) (k : Option Node → Plan A) (o : Option Node) → s.see f ≡ o → run s (See f k) ≡ run s (k o)
unfolding run
run_see s f k o e = ap (λ o. run s (k o)) e

pub run_done : {A : Type 0} (s : Sight) (x : A) → run s (Done x) ≡ Ok x
unfolding run
run_done s x = refl

pub has_root : (c : Cells) → get c.objects 1 ≡ Some (root_cell 1)
    → run (sight_of c) (plan (call.Getattr (root_handle 0)) nobody epoch no_choice) ≡ Ok (answering root_answer)
unfolding ◌>>=◌ u32_text u64_text u32_at u64_at zero_at form_text form_at magic_at handle_of
has_root c is =
    run_look (sight_of c) 1 _ _ (ap (λ o. option_map node_of o) is)
    ∙ (run_see (sight_of c) 1 _ _ (ap (λ o. option_map node_of o) is) ∙ run_done (sight_of c) (answering root_answer))

pub is_outer : outer_call (call.Getattr (root_handle 16)) ≡ call.Getattr (root_handle 0)
unfolding u32_text u64_text u32_at u64_at zero_at form_text form_at magic_at internal_of
is_outer = refl

-- ---- what the proxy reads

pub is_read : reply_in 1 (root_reply 1) ≡ Some root_answer
unfolding reply_in results_in word_at reply_of reply_at result_at status_at fattr_at fattr_front_at fattr_place_at fattr_times_at time_at kind_at accepted_text u32_text u64_text u32_at u64_at fattr_text fattr_front_text fattr_place_text fattr_times_text time_text
is_read = refl
