-- What a docket knows of a history, and what it says of a note.
use Rattle.std.specs.Prelude.{◌≡◌, ℕ, List, [], ◌∷◌, ◌++◌, Option, Some, None, Bool, true, false, Result, Ok, Err, IfErr, ◌↔◌}
use Rattle.sl_defs.specs.declared.note.Choice.{Choice}
use Rattle.sl_model.specs.Volume.{Volume}
use Rattle.sl_history.specs.Turns.{Remark, Did, Flush, Verf, Turn, History, noted}
use Rattle.sl_history.specs.Arrivals.{Asked, asked}
use Rattle.sl_history.specs.Volumes.{volume_after}
use Rattle.sl_history.specs.Deciding.{Says}
use Rattle.sl_history.specs.Licensed.{AllMayBeNoted, IsFlush, IsFlushRequest, IsLicensedEffectIf, IsRenewal, MayBeKept}
use Rattle.sl_ledger.specs.Stops.{StopsAtNote}
use Rattle.sl_ledger.specs.declared.fault.AuditFault.{AuditFault}
use Rattle.sl_licence.specs.declared.asking.FlushRequest.{FlushRequest}
use Rattle.sl_licence.specs.declared.crowds.Crowds.{Crowds}
use Rattle.sl_licence.specs.declared.docket.Docket.{Docket}
use Rattle.sl_licence.specs.Asking.{new_request}
use Rattle.sl_licence.specs.Crowds.{AreCrowdsOf}
use Rattle.sl_licence.specs.Evidence.{IsEvidenceOf}

-- The docket is that of the history, for a server that began with this volume.
pub record IsDocketOf (start : Volume) (h : History) (d : Docket) : Type 0 where
  pub evidence : IsEvidenceOf h d.evidence
  pub volume : d.volume ≡ volume_after start h

-- ---- what is asked of a note

-- The note may stand here, but for the flush that it may ask for.
abbrev pub MayStand : Volume → History → Remark → Type 0
MayStand start h (Verf v) = IsRenewal start h v
MayStand start h (Flush f) = IsFlush start h f
MayStand start h (Did n at choice) = IsLicensedEffectIf start h n at choice (asked h n)
MayStand start h other = Unit {0}

abbrev pub IsKeptRightly : Volume → History → ℕ → Choice → Option Asked → Type 0
IsKeptRightly start h n choice None = ⊥
IsKeptRightly start h n choice (Some a) = MayBeKept start h n choice a.call

-- The same without what follows from the effect's reply.
abbrev pub MayCome : Volume → History → Remark → Type 0
MayCome start h (Verf v) = IsRenewal start h v
MayCome start h (Flush f) = IsFlush start h f
MayCome start h (Did n at choice) = IsKeptRightly start h n choice (asked h n)
MayCome start h other = Unit {0}

-- ---- what is asked of a turn's new requests

-- the flush may be asked for, where the turn has ended
abbrev pub IsDue : Volume → History → FlushRequest → Type 0
IsDue start ended w = IsFlushRequest start ended w.arrival w.file

abbrev pub AreDue : Volume → History → List FlushRequest → Type 0
AreDue start ended [] = Unit {0}
AreDue start ended (w ∷ ws) = IsDue start ended w × AreDue start ended ws

abbrev pub with_new : List FlushRequest → Option FlushRequest → List FlushRequest
with_new ws None = ws
with_new ws (Some w) = ws ++ w ∷ []

-- ---- what becomes of a note

-- The answer says whether the note may stand here; where it may, the volume is that behind it, and all else as it was.
pub record Judges (crowds : Crowds) (old new : Docket) (r : Remark) (result : Result Bool AuditFault) : Type 0 where
  pub decides : (start : Volume) (t : Turn) (past : History) → IsDocketOf start (t ∷ past) old → AreCrowdsOf start past crowds → Says result (MayStand start (t ∷ past) r)
  pub serves : result ≡ Ok true → (start : Volume) (t : Turn) (past : History) → IsDocketOf start (t ∷ past) old
      → (new.evidence ≡ old.evidence) × (new.volume ≡ volume_after start (noted (t ∷ past) r))
  pub stopped : (start : Volume) (t : Turn) (past : History) → IsDocketOf start (t ∷ past) old → IfErr result (λ fault. StopsAtNote fault (volume_after start (t ∷ past)) (t ∷ past) r)

-- The same, and where it may stand here the docket is that of the history with it; a new request stands behind those before.
pub record Notes (crowds : Crowds) (old new : Docket) (before after : List FlushRequest) (r : Remark) (result : Result Bool AuditFault) : Type 0 where
  pub decides : (start : Volume) (t : Turn) (past : History) → IsDocketOf start (t ∷ past) old → AreCrowdsOf start past crowds → Says result (MayStand start (t ∷ past) r)
  pub takes : result ≡ Ok true → (start : Volume) (t : Turn) (past : History) → IsDocketOf start (t ∷ past) old → AreCrowdsOf start past crowds
      → IsDocketOf start (noted (t ∷ past) r) new × (after ≡ with_new before (new_request (t ∷ past) r))
  pub stopped : (start : Volume) (t : Turn) (past : History) → IsDocketOf start (t ∷ past) old → IfErr result (λ fault. StopsAtNote fault (volume_after start (t ∷ past)) (t ∷ past) r)

-- The answer says whether all notes of a turn may be noted, where it is yes if the turn's new requests are due.
abbrev pub Stands : Result Bool AuditFault → Volume → Turn → History → List FlushRequest → Type 0
Stands (Ok true) start t past ws = AreDue start (t ∷ past) ws ↔ AllMayBeNoted start t past [] t.remarks
Stands (Ok false) start t past ws = AllMayBeNoted start t past [] t.remarks → ⊥
Stands (Err fault) start t past ws = Unit {0}
