-- When a call takes effect, which fileid it chooses, and whether a WRITE is kept.
use Rattle.std.specs.Prelude.{ℕ, [], ◌∷◌, true}
use Rattle.sl_defs.specs.declared.setup.Time.{Time}
use Rattle.sl_defs.specs.declared.event.Event.TheVariants as event
use Rattle.sl_defs.specs.declared.note.Choice.{Choice}
use Rattle.sl_types.specs.declared.call.Call.{Call}
use Rattle.sl_types.specs.declared.call.Stable.TheVariants as stable
use Rattle.sl_history.specs.Turns.{Did, History}
use Rattle.sl_history.specs.Legal.{Legal, no_choice}
use Rattle.sl_examples.specs.Histories.{start, epoch, turn, welcomed, file_two}
use Rattle.sl_refusals.specs.Packets.{asks, create, write}
use Rattle.sl_refusals.specs.Volumes.{filed}

-- the call of event 3 takes effect in event 4
abbrev pub done : Call → Choice → History
done c choice = turn event.Tick (Did 3 epoch choice ∷ []) ∷ turn (event.Call 0 (asks c)) [] ∷ welcomed

-- The root's fileid was used before, and is given to no other object.
abbrev pub FileidsAreToldApart : Type 0
FileidsAreToldApart = Legal start (done create file_two) × (Legal start (done create (record file_two { fileid = 1 })) → ⊥)

-- A WRITE that is answered FILE_SYNC is told as kept, and no other call is.
abbrev pub KeptWritesAreToldApart : Type 0
KeptWritesAreToldApart =
    Legal filed (done (write 0 stable.FileSync) (record no_choice { kept = true })) × (Legal filed (done (write 0 stable.FileSync) no_choice) → ⊥)
    × (Legal start (done create (record file_two { kept = true })) → ⊥)

-- ---- moments

abbrev pub second : ℕ → Time
second n = record { sec = n; nsec = 0 }

-- the call comes in second 5, and its effect is noted in second 7
abbrev pub done_at : ℕ → History
done_at n =
    record (turn event.Tick (Did 3 (second n) file_two ∷ [])) { moment = second 7 } ∷ record (turn (event.Call 0 (asks create)) []) { moment = second 5 } ∷ welcomed

-- The moment of an effect isn't before that of its call, nor after that of its note.
abbrev pub MomentsAreToldApart : Type 0
MomentsAreToldApart = Legal start (done_at 6) × (Legal start (done_at 4) → ⊥) × (Legal start (done_at 8) → ⊥)
