-- A flush, from the WRITE on: its attributes lie with server 16, and its byte with server 32.
use Rattle.std.specs.Prelude.{List, [], ◌∷◌}
use Rattle.sl_defs.specs.declared.event.Event.TheVariants as event
use Rattle.sl_frames.specs.declared.body.Body.TheVariants as body
use Rattle.sl_history.specs.Turns.{Remark, Sent, Flush, History}
use Rattle.sl_history.specs.Wired.{Wired}
use Rattle.sl_examples.specs.Histories.{setup, turn}
use Rattle.sl_refusals.specs.Packets.{asks, commit}
use Rattle.sl_refusals.specs.Volumes.{filed}
use Rattle.sl_refusals.specs.Frames.{request, order, reports, put_attributes, keep_bytes, flush}
use Rattle.sl_refusals.specs.Bytes.{write_at, done_then}

-- a byte was written, and for a COMMIT the coordinator is asked to flush the file; it asks both servers for a lock
abbrev pub locking : List Remark → History
locking remarks =
    turn (event.Give 5) (Sent 6 (order 1 16 (body.Lock put_attributes)) ∷ Sent 7 (order 1 32 (body.Lock keep_bytes)) ∷ remarks)
    ∷ turn (event.Call 0 (asks commit)) (Sent 5 (request 1 2 6 flush) ∷ []) ∷ done_then (write_at 32 3 [])

-- the first server grants it, and then the second one
abbrev pub granted_by_first : List Remark → History
granted_by_first remarks = turn (event.Give 8) remarks ∷ turn (event.Give 6) (Sent 8 (reports 1 16 body.Grant) ∷ []) ∷ locking []

abbrev pub granted_by_both : List Remark → History
granted_by_both remarks = turn (event.Give 9) remarks ∷ turn (event.Give 7) (Sent 9 (reports 1 32 body.Grant) ∷ []) ∷ granted_by_first []

-- the second server notes it as it grants
abbrev pub noted_by_server : History
noted_by_server = turn (event.Give 7) (Sent 9 (reports 1 32 body.Grant) ∷ Flush 2 ∷ []) ∷ granted_by_first []

-- a second operation is ordered, and the first server grants it
abbrev pub granted_again : List Remark → History
granted_again remarks =
    turn (event.Give 11) remarks
    ∷ turn (event.Give 10) (Sent 11 (reports 2 16 body.Grant) ∷ []) ∷ turn event.Tick (Sent 10 (order 2 16 (body.Lock put_attributes)) ∷ []) ∷ granted_by_both []

-- A flush is noted by the coordinator, once each server of what becomes stable has granted it, and not for another operation.
abbrev pub GrantsAreToldApart : Type 0
GrantsAreToldApart =
    Wired setup filed (granted_by_both (Flush 2 ∷ [])) × (Wired setup filed (granted_by_first (Flush 2 ∷ [])) → ⊥)
    × (Wired setup filed (locking (Flush 2 ∷ [])) → ⊥) × (Wired setup filed noted_by_server → ⊥) × (Wired setup filed (granted_again (Flush 2 ∷ [])) → ⊥)
