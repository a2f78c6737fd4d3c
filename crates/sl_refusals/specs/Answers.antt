-- Replies: to a call that changed something, to one that only asks, and to one that needs no server.
use Rattle.std.specs.Prelude.{ℕ, List, [], ◌∷◌, Ok}
use Rattle.sl_defs.specs.declared.event.Event.TheVariants as event
use Rattle.sl_types.specs.declared.kind.Status.TheVariants as status
use Rattle.sl_types.specs.declared.call.Stable.TheVariants as stable
use Rattle.sl_types.specs.declared.reply.Reply.{Reply}
use Rattle.sl_types.specs.declared.reply.Reply.TheVariants as reply
use Rattle.sl_model.specs.declared.node.Node.{Node}
use Rattle.sl_model.specs.Looking.{attributes, wcc_of}
use Rattle.sl_model.specs.Changing.{made, set_attributes}
use Rattle.sl_model.specs.Perform.{new_root}
use Rattle.sl_model.specs.Procedures.{fault}
use Rattle.sl_history.specs.Turns.{Remark, Did, Flush, Replied, Junk, Early, Lost, History}
use Rattle.sl_history.specs.Legal.{Legal, no_choice}
use Rattle.sl_examples.specs.Histories.{start, epoch, fence, turn, opened, welcomed, file_two, null_call, null_reply}
use Rattle.sl_refusals.specs.Packets.{asks, answers, create, change_root, new_mode, look_at_root, write, commit}
use Rattle.sl_refusals.specs.Volumes.{filed, made_file}
use Rattle.sl_refusals.specs.Effects.{done}

-- ---- a file is made in event 4, and the call replied in event 5

abbrev pub created : ℕ → Reply → History
created e r = turn event.Tick (Replied 3 e (answers r) ∷ []) ∷ done create file_two

abbrev pub create_answer : Reply
create_answer = reply.Create (Ok (made made_file))

-- The reply names the event of the effect, and is what the server answered then.
abbrev pub EffectRepliesAreToldApart : Type 0
EffectRepliesAreToldApart =
    Legal start (created 4 create_answer) × (Legal start (created 3 create_answer) → ⊥) × (Legal start (created 4 (fault create status.Exist)) → ⊥)

-- ---- the root's attributes are asked for in event 3, its mode is changed in event 5, and the reply comes in event 6

abbrev pub changed_root : Node
changed_root = set_attributes (new_root 1) new_mode epoch

abbrev pub changed_meanwhile : History
changed_meanwhile = turn event.Tick (Did 4 epoch no_choice ∷ []) ∷ turn (event.Call 0 (asks change_root)) [] ∷ turn (event.Call 0 (asks look_at_root)) [] ∷ welcomed

abbrev pub looked_at : Node → ℕ → History
looked_at n e = turn event.Tick (Replied 3 e (answers (reply.Getattr (Ok (attributes n)))) ∷ []) ∷ changed_meanwhile

-- The reply tells the root as it was at the end of the event that it names, or as it became, not before the call came, and
-- not of an event to come.
abbrev pub LooksAreToldApart : Type 0
LooksAreToldApart =
    Legal start (looked_at (new_root 1) 3) × Legal start (looked_at changed_root 5) × (Legal start (looked_at (new_root 1) 5) → ⊥)
    × (Legal start (looked_at (new_root 1) 2) → ⊥) × (Legal start (looked_at changed_root 7) → ⊥)

-- ---- a byte is written in event 4, and a COMMIT comes in event 5

abbrev pub written : History
written = done (write 0 stable.Unstable) no_choice

abbrev pub sized : Node
sized = record made_file { size = 1 }

abbrev pub commit_answer : Reply
commit_answer = reply.Commit (Ok (record { wcc = wcc_of sized; verifier = fence }))

abbrev pub committed : List Remark → History
committed remarks = turn event.Tick (Replied 5 6 (answers commit_answer) ∷ []) ∷ turn event.Tick remarks ∷ turn (event.Call 0 (asks commit)) [] ∷ written

-- COMMIT is answered OK once the file was flushed, and not before.
abbrev pub CommitsAreToldApart : Type 0
CommitsAreToldApart = Legal filed (committed (Flush 2 ∷ [])) × (Legal filed (committed []) → ⊥)

-- ---- NULL comes in event 2, while the proxy is down

abbrev pub null_lost : List Remark → History
null_lost replies = turn (event.Call 0 null_call) (Lost 2 ∷ replies) ∷ turn (event.Stop 0 0) [] ∷ opened

abbrev pub null_answered_later : History
null_answered_later = turn event.Tick (Replied 2 2 null_reply ∷ []) ∷ turn (event.Start 0) [] ∷ null_lost []

-- What needs no server is answered in its own event, and only while the proxy is up.
abbrev pub InstantRepliesAreToldApart : Type 0
InstantRepliesAreToldApart = Legal start (null_lost []) × (Legal start (null_lost (Replied 2 2 null_reply ∷ [])) → ⊥) × (Legal start null_answered_later → ⊥)

-- ---- replies that no call has

-- a call that came too early, no call, and an event that brings no datagram
abbrev pub early_answered : History
early_answered = turn event.Tick (Replied 1 1 (answers (reply.Getattr (Ok (attributes (new_root 1))))) ∷ []) ∷ turn (event.Call 0 (asks look_at_root)) (Early 1 ∷ []) ∷ opened

abbrev pub junk_answered : History
junk_answered = turn (event.Call 0 []) (Junk 3 ∷ Replied 3 3 null_reply ∷ []) ∷ welcomed

abbrev pub frame_answered : History
frame_answered = turn event.Tick (Replied 1 1 null_reply ∷ []) ∷ welcomed

-- the drop is noted after the effect, or after the reply
abbrev pub done_and_early : History
done_and_early = turn (event.Call 0 (asks create)) (Did 1 epoch file_two ∷ Early 1 ∷ []) ∷ opened

abbrev pub answered_and_early : History
answered_and_early =
    turn (event.Call 0 (asks look_at_root)) (Replied 1 1 (answers (reply.Getattr (Ok (attributes (new_root 1))))) ∷ Early 1 ∷ []) ∷ opened

-- a call that only asks is noted as an effect
abbrev pub look_done : History
look_done = done look_at_root no_choice

-- Only a call that isn't dropped is replied or has an effect, and an effect only one that may change something.
abbrev pub CallsAreToldApart : Type 0
CallsAreToldApart =
    Legal start (looked_at (new_root 1) 3) × (Legal start early_answered → ⊥) × (Legal start junk_answered → ⊥) × (Legal start frame_answered → ⊥)
    × (Legal start done_and_early → ⊥) × (Legal start answered_and_early → ⊥) × (Legal start look_done → ⊥)
