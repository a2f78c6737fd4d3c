-- Frames: their numbers and senders, what answers what, and what isn't asked.
use Rattle.std.specs.Prelude.{ℕ, ◌+◌, [], ◌∷◌}
use Rattle.sl_defs.specs.declared.event.Event.TheVariants as event
use Rattle.sl_types.specs.declared.call.Call.TheVariants as call
use Rattle.sl_cells.specs.declared.keys.CellKey.TheVariants as key
use Rattle.sl_frames.specs.declared.frame.Frame.{Frame}
use Rattle.sl_frames.specs.declared.body.Body.TheVariants as body
use Rattle.sl_history.specs.Turns.{Sent, History, events}
use Rattle.sl_history.specs.Wired.{Wired, cell_of}
use Rattle.sl_examples.specs.Histories.{setup, start, fence, turn, greeting, opened, welcomed, asked_for_root, telling}
use Rattle.sl_refusals.specs.Packets.{call_packet, asks, file_handle, look_at_file, read}
use Rattle.sl_refusals.specs.Volumes.{filed}
use Rattle.sl_refusals.specs.Answers.{written}
use Rattle.sl_refusals.specs.Frames.{request, answer, order, put_attributes}

-- ---- the Hello is given to the coordinator, which sends a frame

abbrev pub sent : ℕ → Frame → History
sent k f = turn (event.Give 1) (Sent k f ∷ []) ∷ opened

-- the coordinator is down, and asks for a lock all the same
abbrev pub sent_down : History
sent_down = turn (event.Give 1) (Sent 2 (order 1 16 (body.Lock put_attributes)) ∷ []) ∷ turn (event.Stop 1 0) [] ∷ opened

-- Frames are numbered one after another, and sent by the actor whose event it is, while it is up.
abbrev pub SendersAreToldApart : Type 0
SendersAreToldApart =
    Wired setup start (sent 2 (greeting 1 0 body.Welcome)) × (Wired setup start (sent 3 (greeting 1 0 body.Welcome)) → ⊥)
    × (Wired setup start (sent 2 (greeting 0 1 body.Hello)) → ⊥) × (Wired setup start sent_down → ⊥)

-- ---- the server is asked for the root's cell, and answers

abbrev pub right_answer : Frame
right_answer = telling (cell_of start (key.Attr 1))

abbrev pub told : Frame → History
told f = turn (event.Give 3) (Sent 4 f ∷ []) ∷ asked_for_root

-- An answer has the fence and the tag of its request, and no operation where the request has none; it goes to who asked, and
-- is of the kind that was asked for.
abbrev pub AnswersAreToldApart : Type 0
AnswersAreToldApart =
    Wired setup start (told right_answer) × (Wired setup start (told (record right_answer { fence = fence + 1 })) → ⊥)
    × (Wired setup start (told (record right_answer { tag = 2 })) → ⊥) × (Wired setup start (told (record right_answer { op = 1 })) → ⊥)
    × (Wired setup start (told (record right_answer { to = 1 })) → ⊥) × (Wired setup start (told (record right_answer { «body» = body.Minted 5 })) → ⊥)

-- ---- the Hello was given, and is lost or copied then

abbrev pub lost_then : History
lost_then = turn (event.Drop 1) [] ∷ sent 2 (greeting 1 0 body.Welcome)

abbrev pub copied_then : History
copied_then = turn (event.Copy 1) [] ∷ sent 2 (greeting 1 0 body.Welcome)

-- A frame is lost, or given and kept in flight, only while it is in flight.
abbrev pub FlightsAreToldApart : Type 0
FlightsAreToldApart =
    Wired setup start (turn (event.Drop 1) [] ∷ opened) × Wired setup start (turn (event.Give 1) [] ∷ turn (event.Copy 1) [] ∷ opened) × (Wired setup start lost_then → ⊥)
    × (Wired setup start copied_then → ⊥)

-- ---- both data servers are asked for bytes, and the second one answers

abbrev pub asked_both : History
asked_both =
    turn (event.Give 3) []
    ∷ turn (event.Call 0 (asks (call.Read (file_handle 0) 65536 1))) (Sent 4 (request 48 2 4 (body.Forward 0 (call_packet 2 (call.Read (file_handle 48) 65536 1)))) ∷ [])
    ∷ turn (event.Call 0 (asks (read 0))) (Sent 3 (request 32 1 3 (body.Forward 0 (call_packet 1 (read 32)))) ∷ []) ∷ welcomed

abbrev pub second_answers : ℕ → History
second_answers tag = turn (event.Give 4) (Sent 5 (answer 48 tag (body.Packet [])) ∷ []) ∷ asked_both

-- A request is answered by the server that it was sent to.
abbrev pub ServersAreToldApart : Type 0
ServersAreToldApart = Wired setup filed (second_answers 2) × (Wired setup filed (second_answers 1) → ⊥)

-- ---- a file's attributes are asked for

abbrev pub asked_after : History → History
asked_after past =
    turn (event.Call 0 (asks (look_at_file 0))) (Sent 3 (request 16 1 (events past + 1) (body.Forward 0 (call_packet 1 (look_at_file 16)))) ∷ []) ∷ past

-- No server is asked for the attributes of a file with unstable writes.
abbrev pub QuietFilesAreToldApart : Type 0
QuietFilesAreToldApart = Wired setup filed (asked_after welcomed) × (Wired setup filed (asked_after written) → ⊥)
