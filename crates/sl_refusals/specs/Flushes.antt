-- Flushes, and what a WRITE and a CREATE may tell.
use Rattle.std.specs.Prelude.{ℕ, List, [], ◌∷◌, true}
use Rattle.sl_defs.specs.declared.event.Event.TheVariants as event
use Rattle.sl_types.specs.declared.call.Call.{Call}
use Rattle.sl_types.specs.declared.call.Stable.TheVariants as stable
use Rattle.sl_frames.specs.declared.body.Body.TheVariants as body
use Rattle.sl_history.specs.Turns.{Remark, Sent, Did, Flush, History}
use Rattle.sl_history.specs.Legal.{no_choice}
use Rattle.sl_history.specs.Licensed.{Licensed}
use Rattle.sl_examples.specs.Histories.{start, epoch, turn, welcomed}
use Rattle.sl_refusals.specs.Packets.{asks, create, write, commit, change_root}
use Rattle.sl_refusals.specs.Volumes.{filed}
use Rattle.sl_refusals.specs.Effects.{done}
use Rattle.sl_refusals.specs.Answers.{written}
use Rattle.sl_refusals.specs.Frames.{request, answer, flush, intent}

-- ---- a byte was written in event 4

-- for the call of event 5 the flush of the file is asked for
abbrev pub requested : Call → History
requested c = turn (event.Call 0 (asks c)) (Sent 3 (request 1 1 5 flush) ∷ []) ∷ written

-- nothing was written, and the flush is asked for
abbrev pub requested_clean : History
requested_clean = turn (event.Call 0 (asks commit)) (Sent 3 (request 1 1 3 flush) ∷ []) ∷ welcomed

-- under the same tag something else was asked for before
abbrev pub requested_over : History
requested_over =
    turn (event.Call 0 (asks change_root)) (Sent 4 (request 1 1 6 flush) ∷ []) ∷ turn (event.Call 0 (asks change_root)) (Sent 3 (request 1 1 5 intent) ∷ []) ∷ written

-- it is sent again at a tick, after the flush
abbrev pub requested_again : History
requested_again = turn event.Tick (Sent 4 (request 1 1 5 flush) ∷ []) ∷ turn (event.Copy 3) (Flush 2 ∷ []) ∷ requested commit

-- it is asked for in the event in which the byte is written: the frame stands before what else is noted
abbrev pub requested_at_once : List Remark → History
requested_at_once remarks =
    turn event.Tick (Sent 3 (request 1 1 4 flush) ∷ remarks) ∷ turn (event.Call 0 (asks commit)) [] ∷ turn (event.Call 0 (asks (write 0 stable.Unstable))) [] ∷ welcomed

-- A flush is asked for only for a call that keeps the file, and only where the file has unstable writes as the event ends;
-- and not for a WRITE that may stay unstable while the file has few. It may be asked for again for the same call.
abbrev pub FlushRequestsAreToldApart : Type 0
FlushRequestsAreToldApart =
    Licensed filed (requested commit) × (Licensed filed (requested change_root) → ⊥) × (Licensed filed (requested (write 0 stable.Unstable)) → ⊥)
    × (Licensed filed requested_clean → ⊥) × (Licensed filed requested_over → ⊥) × Licensed filed requested_again
    × Licensed filed (requested_at_once (Did 3 epoch no_choice ∷ [])) × (Licensed filed (requested_at_once []) → ⊥)

abbrev pub flushed : History
flushed = turn (event.Copy 3) (Flush 2 ∷ []) ∷ requested commit

abbrev pub flushed_unasked : History
flushed_unasked = turn event.Tick (Flush 2 ∷ []) ∷ written

-- the same request is given again after another byte was written
abbrev pub flushed_twice : History
flushed_twice = turn (event.Give 3) (Flush 2 ∷ []) ∷ turn event.Tick (Did 7 epoch no_choice ∷ []) ∷ turn (event.Call 0 (asks (write 0 stable.Unstable))) [] ∷ flushed

-- Each flush has a request of its own, which the coordinator was given.
abbrev pub FlushesAreToldApart : Type 0
FlushesAreToldApart = Licensed filed flushed × (Licensed filed flushed_unasked → ⊥) × (Licensed filed flushed_twice → ⊥)

-- ---- what is kept

-- A WRITE that may stay unstable isn't kept while few files have unstable writes.
abbrev pub UnstableWritesAreToldApart : Type 0
UnstableWritesAreToldApart = Licensed filed written × (Licensed filed (done (write 0 stable.Unstable) (record no_choice { kept = true })) → ⊥)

-- ---- no fileid is left

-- a fileid is asked for, for the call of an event, and this one is told
abbrev pub minted : ℕ → ℕ → History
minted arrival f =
    turn (event.Give 3) (Sent 4 (answer 16 1 (body.Minted f)) ∷ []) ∷ turn (event.Call 0 (asks create)) (Sent 3 (request 16 1 arrival (body.Mint 0)) ∷ []) ∷ welcomed

abbrev pub told : ℕ → ℕ → History
told arrival f = turn (event.Give 4) (Did 3 epoch no_choice ∷ []) ∷ minted arrival f

abbrev pub not_yet_told : History
not_yet_told = turn event.Tick (Did 3 epoch no_choice ∷ []) ∷ minted 3 0

-- CREATE answers NOSPC only once the proxy was told, for this call, that no fileid is left.
abbrev pub WantOfFileidsIsToldApart : Type 0
WantOfFileidsIsToldApart =
    Licensed start (told 3 0) × (Licensed start (told 3 5) → ⊥) × (Licensed start (told 2 0) → ⊥) × (Licensed start not_yet_told → ⊥)
    × (Licensed start (done create no_choice) → ⊥)
