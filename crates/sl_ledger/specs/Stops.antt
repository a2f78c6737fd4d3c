-- Why it couldn't be said whether a claim holds of a history.
use Rattle.std.specs.Prelude.{List, [], ◌∷◌, ◌++◌, Option, Some, None, ◌⊎◌}
use Rattle.sl_defs.specs.declared.setup.Time.{Time}
use Rattle.sl_defs.specs.declared.note.Choice.{Choice}
use Rattle.sl_model.specs.Plan.{run}
use Rattle.sl_model.specs.Volume.{Volume, sight}
use Rattle.sl_model.specs.Procedures.{plan}
use Rattle.sl_plain.specs.Outcomes.{IsSpent}
use Rattle.sl_history.specs.Turns.{Remark, Did, Turn, History, so_far}
use Rattle.sl_history.specs.Arrivals.{Asked, asked}
use Rattle.sl_history.specs.Volumes.{volume_after}
use Rattle.sl_ledger.specs.declared.fault.AuditFault.{AuditFault}
use Rattle.sl_ledger.specs.declared.fault.AuditFault.TheVariants.{NoMemory, Spent}

-- performing the call on this volume would put a number that passes the end of its type
abbrev pub IsSpentIf : Volume → Option Asked → Time → Choice → Type 0
IsSpentIf v None at choice = ⊥
IsSpentIf v (Some a) at choice = IsSpent (run (sight v) (plan a.call a.cred at choice))

-- The note is of such an effect, on this volume. Memory may run out anywhere.
abbrev pub StopsAtNote : AuditFault → Volume → History → Remark → Type 0
StopsAtNote NoMemory v h r = Unit {0}
StopsAtNote Spent v h (Did n at choice) = IsSpentIf v (asked h n) at choice
StopsAtNote Spent v h other = ⊥

-- one of these notes is, behind those before
abbrev pub StopsAmong : AuditFault → Volume → Turn → History → List Remark → List Remark → Type 0
StopsAmong fault start t past before [] = ⊥
StopsAmong fault start t past before (r ∷ rs) =
    StopsAtNote fault (volume_after start (so_far t before ∷ past)) (so_far t before ∷ past) r ⊎ StopsAmong fault start t past (before ++ r ∷ []) rs

-- a note of this history is
abbrev pub StopsIn : AuditFault → Volume → History → Type 0
StopsIn NoMemory start h = Unit {0}
StopsIn Spent start [] = ⊥
StopsIn Spent start (t ∷ past) = StopsIn Spent start past ⊎ StopsAmong Spent start t past [] t.remarks
