-- What a docket does with a note.
use Rattle.std.specs.Prelude.{◌≡◌, [], ◌∷◌, ◌++◌, List, Bool, true, Result, Ok, Err, IfErr}
use Rattle.sl_defs.specs.declared.bytes.NoMemory.{NoMemory}
use Rattle.sl_defs.specs.Histories.{Happening}
use Rattle.sl_defs.specs.declared.setup.Setup.{Setup}
use Rattle.sl_model.specs.Volume.{Volume}
use Rattle.sl_history.specs.Turns.{Remark, Turn, History, so_far}
use Rattle.sl_history.specs.Volumes.{volume_after}
use Rattle.sl_history.specs.Deciding.{Says}
use Rattle.sl_history.specs.Wired.{MayNote}
use Rattle.sl_ledger.specs.Stops.{StopsAtNote}
use Rattle.sl_ledger.specs.declared.fault.AuditFault.{AuditFault}
use Rattle.sl_ledger.specs.declared.fault.AuditFault.TheVariants as fault
use Rattle.sl_wiring.specs.declared.docket.Docket.{Docket}
use Rattle.sl_wiring.specs.Dockets.{IsDocketOf}

-- The answer says whether the remark may be noted next in a turn of this happening; where it may, the docket is that of the history with it.
pub record Notes (old new : Docket) (x : Happening) (r : Remark) (result : Result Bool AuditFault) : Type 0 where
  pub decides : (setup : Setup) (start : Volume) (t : Turn) (past : History) (before : List Remark) → t.happening ≡ x → IsDocketOf setup start (so_far t before ∷ past) old
      → Says result (MayNote setup start past t (so_far t before ∷ past) r)
  pub takes : result ≡ Ok true → (setup : Setup) (start : Volume) (t : Turn) (past : History) (before : List Remark) → IsDocketOf setup start (so_far t before ∷ past) old
      → IsDocketOf setup start (so_far t (before ++ r ∷ []) ∷ past) new
  pub stopped : (setup : Setup) (start : Volume) (h : History) → IsDocketOf setup start h old → IfErr result (λ fault. StopsAtNote fault (volume_after start h) h r)

-- an answer, where memory may have run out
abbrev pub audit : Result Bool NoMemory → Result Bool AuditFault
audit (Ok b) = Ok b
audit (Err e) = Err fault.NoMemory
