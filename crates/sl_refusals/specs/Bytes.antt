-- Bytes that a server gives, and an effect that waits for its server.
use Rattle.std.specs.Prelude.{ℕ, List, [], ◌∷◌, Some, true, Ok}
use Rattle.sl_defs.specs.declared.event.Event.TheVariants as event
use Rattle.sl_types.specs.declared.call.Stable.TheVariants as stable
use Rattle.sl_types.specs.declared.reply.Reply.{Reply}
use Rattle.sl_types.specs.declared.reply.Reply.TheVariants as reply
use Rattle.sl_frames.specs.declared.body.Body.TheVariants as body
use Rattle.sl_model.specs.Looking.{attributes, wcc_of}
use Rattle.sl_history.specs.Turns.{Remark, Sent, Did, Replied, History}
use Rattle.sl_history.specs.Legal.{no_choice}
use Rattle.sl_history.specs.Wired.{Wired}
use Rattle.sl_examples.specs.Histories.{setup, fence, epoch, turn, welcomed}
use Rattle.sl_refusals.specs.Packets.{call_packet, reply_packet, asks, answers, read, write}
use Rattle.sl_refusals.specs.Volumes.{filed}
use Rattle.sl_refusals.specs.Answers.{sized}
use Rattle.sl_refusals.specs.Frames.{request, answer}

-- ---- a READ at offset 0, whose bytes lie with server 32

abbrev pub gives : List ℕ → Reply
gives bytes = reply.Read (Ok (record { attributes = Some (attributes sized); count = 1; eof = true; bytes = bytes }))

-- a server is asked in event 3, for the call of an event, and gives bytes in event 4
abbrev pub read_at : ℕ → ℕ → List ℕ → History
read_at server arrival bytes =
    turn (event.Give 3) (Sent 4 (answer server 1 (body.Packet (reply_packet 1 (gives bytes)))) ∷ [])
    ∷ turn (event.Call 0 (asks (read 0))) (Sent 3 (request server 1 arrival (body.Forward 0 (call_packet 1 (read server)))) ∷ []) ∷ welcomed

abbrev pub replied : ℕ → List ℕ → History → History
replied e bytes past = turn (event.Give 4) (Replied 3 e (answers (gives bytes)) ∷ []) ∷ past

-- before the proxy is given the server's answer
abbrev pub replied_before : History
replied_before = turn event.Tick (Replied 3 4 (answers (gives (120 ∷ []))) ∷ []) ∷ read_at 32 3 (120 ∷ [])

-- The reply to a READ has the bytes that the server of its offset gave for this call, and names the event in which it did.
abbrev pub ReadBytesAreToldApart : Type 0
ReadBytesAreToldApart =
    Wired setup filed (replied 4 (120 ∷ []) (read_at 32 3 (120 ∷ []))) × (Wired setup filed (replied 4 (120 ∷ []) (read_at 48 3 (120 ∷ []))) → ⊥)
    × (Wired setup filed (replied 5 (120 ∷ []) (read_at 32 3 (120 ∷ []))) → ⊥) × (Wired setup filed (replied 4 (121 ∷ []) (read_at 32 3 (120 ∷ []))) → ⊥)
    × (Wired setup filed (replied 4 (120 ∷ []) (read_at 32 2 (120 ∷ []))) → ⊥) × (Wired setup filed replied_before → ⊥)

-- ---- a WRITE at offset 0 that stays unstable

abbrev pub wrote : Reply
wrote = reply.Write (Ok (record { wcc = wcc_of sized; count = 1; committed = stable.Unstable; verifier = fence }))

-- a server is asked for the call of event 3 and answers; the first note is of the event in which it does
abbrev pub write_at : ℕ → ℕ → List Remark → History
write_at server arrival remarks =
    turn (event.Give 3) (Sent 4 (answer server 1 (body.Packet (reply_packet 1 wrote))) ∷ remarks)
    ∷ turn (event.Call 0 (asks (write 0 stable.Unstable))) (Sent 3 (request server 1 arrival (body.Forward 0 (call_packet 1 (write server stable.Unstable)))) ∷ []) ∷ welcomed

abbrev pub done_then : History → History
done_then past = turn (event.Give 4) (Did 3 epoch no_choice ∷ []) ∷ past

-- Such a WRITE takes effect where the proxy is given the answer of the server of its offset, to the request for this call.
abbrev pub UnstableEffectsAreToldApart : Type 0
UnstableEffectsAreToldApart =
    Wired setup filed (done_then (write_at 32 3 [])) × (Wired setup filed (done_then (write_at 48 3 [])) → ⊥)
    × (Wired setup filed (done_then (write_at 32 2 [])) → ⊥) × (Wired setup filed (write_at 32 3 (Did 3 epoch no_choice ∷ [])) → ⊥)
