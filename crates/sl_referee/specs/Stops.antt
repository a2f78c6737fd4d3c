-- Why it couldn't be said whether a history is legal.
use Rattle.std.specs.Prelude.{List, [], ◌∷◌, ◌++◌, Option, Some, None, ◌⊎◌}
use Rattle.sl_defs.specs.declared.setup.Time.{Time}
use Rattle.sl_defs.specs.declared.note.Choice.{Choice}
use Rattle.sl_model.specs.Plan.{run}
use Rattle.sl_model.specs.Volume.{Volume, sight}
use Rattle.sl_model.specs.Procedures.{plan}
use Rattle.sl_model.specs.Perform.{perform}
use Rattle.sl_replies.specs.Texts.{FitsReply}
use Rattle.sl_plain.specs.Outcomes.{IsSpent}
use Rattle.sl_history.specs.Turns.{Remark, Did, Replied, Turn, History, so_far}
use Rattle.sl_history.specs.Arrivals.{Asked, asked}
use Rattle.sl_history.specs.Volumes.{volume_after, volume_at}
use Rattle.sl_history.specs.Legal.{no_choice}
use Rattle.sl_referee.specs.declared.fault.RefereeFault.{RefereeFault}
use Rattle.sl_referee.specs.declared.fault.RefereeFault.TheVariants.{NoMemory, Spent, TooLong}

-- Performing the call on this volume stops: a number would pass the end of its type, or no packet can hold the reply.
abbrev pub StopsAt : RefereeFault → Volume → Asked → Time → Choice → Type 0
StopsAt NoMemory v a at choice = Unit {0}
StopsAt Spent v a at choice = IsSpent (run (sight v) (plan a.call a.cred at choice))
StopsAt TooLong v a at choice = FitsReply (perform v a.call a.cred at choice).1 → ⊥

abbrev pub StopsAtIf : RefereeFault → Volume → Option Asked → Time → Choice → Type 0
StopsAtIf fault v None at choice = ⊥
StopsAtIf fault v (Some a) at choice = StopsAt fault v a at choice

-- Performing stops at this remark, after this history: at the effect that it notes, or at what a reply has to be.
abbrev pub StopsBy : RefereeFault → Volume → History → Time → Remark → Type 0
StopsBy NoMemory start h now r = Unit {0}
StopsBy fault start h now (Did n at choice) = StopsAtIf fault (volume_after start h) (asked h n) at choice
StopsBy fault start h now (Replied n e bytes) = StopsAtIf fault (volume_at start h e) (asked h n) now no_choice
StopsBy fault start h now other = ⊥

-- at one of these remarks, behind those before
abbrev pub StopsAmong : RefereeFault → Volume → Turn → History → List Remark → List Remark → Type 0
StopsAmong fault start t past before [] = ⊥
StopsAmong fault start t past before (r ∷ rs) =
    StopsBy fault start (so_far t before ∷ past) t.moment r ⊎ StopsAmong fault start t past (before ++ r ∷ []) rs

-- It stops at a remark of this history. Memory may run out anywhere.
abbrev pub StopsIn : RefereeFault → Volume → History → Type 0
StopsIn NoMemory start h = Unit {0}
StopsIn fault start [] = ⊥
StopsIn fault start (t ∷ past) = StopsIn fault start past ⊎ StopsAmong fault start t past [] t.remarks
