-- What the proxy was told of a file.
use Rattle.std.specs.Prelude.{List, [], ◌∷◌, Ok}
use Rattle.sl_defs.specs.declared.event.Event.TheVariants as event
use Rattle.sl_types.specs.declared.reply.Reply.{Reply}
use Rattle.sl_types.specs.declared.reply.Reply.TheVariants as reply
use Rattle.sl_frames.specs.declared.body.Body.TheVariants as body
use Rattle.sl_model.specs.Looking.{attributes}
use Rattle.sl_history.specs.Turns.{Remark, Sent, Replied, History}
use Rattle.sl_history.specs.Remembering.{Remembers}
use Rattle.sl_examples.specs.Histories.{turn, welcomed}
use Rattle.sl_types.specs.declared.call.Stable.TheVariants as stable
use Rattle.sl_refusals.specs.Packets.{call_packet, reply_packet, asks, answers, look_at_file, write}
use Rattle.sl_refusals.specs.Volumes.{made_file}
use Rattle.sl_refusals.specs.Frames.{request, answer}

abbrev pub look_answer : Reply
look_answer = reply.Getattr (Ok (attributes made_file))

-- a file's attributes are asked for, told and replied
abbrev pub told : History
told =
    turn (event.Give 4) (Replied 3 4 (answers look_answer) ∷ [])
    ∷ turn (event.Give 3) (Sent 4 (answer 16 1 (body.Packet (reply_packet 1 look_answer))) ∷ [])
    ∷ turn (event.Call 0 (asks (look_at_file 0))) (Sent 3 (request 16 1 3 (body.Forward 0 (call_packet 1 (look_at_file 16)))) ∷ []) ∷ welcomed

-- and asked for again by a client
abbrev pub asked_again : List Remark → History
asked_again remarks = turn (event.Call 0 (asks (look_at_file 0))) remarks ∷ told

-- A WRITE comes after the client asked for the attributes. In one event both have their replies.
abbrev pub told_beside_write : List Remark → History
told_beside_write remarks =
    turn (event.Give 4) remarks
    ∷ turn (event.Give 3) (Sent 4 (answer 16 1 (body.Packet (reply_packet 1 look_answer))) ∷ [])
    ∷ turn (event.Call 0 (asks (write 0 stable.Unstable))) []
    ∷ turn (event.Call 0 (asks (look_at_file 0))) (Sent 3 (request 16 1 3 (body.Forward 0 (call_packet 1 (look_at_file 16)))) ∷ []) ∷ welcomed

abbrev pub look_replied : Remark
look_replied = Replied 3 6 (answers look_answer)

abbrev pub write_replied : Remark
write_replied = Replied 4 6 []

-- and the attributes are asked for again
abbrev pub asked_beside_write : List Remark → History
asked_beside_write remarks =
    turn (event.Call 0 (asks (look_at_file 0))) (Sent 5 (request 16 2 7 (body.Forward 0 (call_packet 2 (look_at_file 16)))) ∷ []) ∷ told_beside_write remarks

-- The proxy replies what it was told, and doesn't ask the server again. It may ask where a WRITE still waited as the
-- attributes were told, though not where that had its reply before.
abbrev pub MemoriesAreToldApart : Type 0
MemoriesAreToldApart =
    Remembers (asked_again (Replied 6 6 (answers look_answer) ∷ []))
    × (Remembers (asked_again (Sent 5 (request 16 2 6 (body.Forward 0 (call_packet 2 (look_at_file 16)))) ∷ [])) → ⊥)
    × Remembers (asked_beside_write (look_replied ∷ write_replied ∷ [])) × (Remembers (asked_beside_write (write_replied ∷ look_replied ∷ [])) → ⊥)
