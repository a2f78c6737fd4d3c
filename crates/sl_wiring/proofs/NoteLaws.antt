-- What is answered of a remark, by what it is.
use Rattle.std.proofs.Common.{◌≡◌, ℕ, Bool, ◌∷◌, ap, sym, subst, ◌∙◌}
use Rattle.std.specs.Prelude.{Result}
use Rattle.sl_defs.specs.declared.bytes.NoMemory.{NoMemory}
use Rattle.sl_defs.specs.declared.note.Choice.{Choice}
use Rattle.sl_defs.specs.declared.setup.Setup.{Setup}
use Rattle.sl_defs.specs.declared.setup.Time.{Time}
use Rattle.sl_model.specs.Volume.{Volume}
use Rattle.sl_history.specs.Turns.{Remark, Did, Flush, Turn, History}
use Rattle.sl_history.specs.Arrivals.{asked}
use Rattle.sl_history.specs.Volumes.{after_note, volume_after}
use Rattle.sl_history.specs.Deciding.{Says}
use Rattle.sl_history.specs.Wired.{IsWiredDidIf, IsWiredFlush, MayNote}
use Rattle.sl_ledger.specs.declared.fault.AuditFault.{AuditFault}
use Rattle.sl_wiring.specs.Notes.{audit}
use Rattle.sl_wiring.proofs.Saying.{says_audit}

pub audited_says : (r : Result Bool NoMemory) (q : Result Bool AuditFault) (x y : Remark) (P : Remark → Type 0) → q ≡ audit r → x ≡ y → Says r (P y) → Says q (P x)
audited_says r q x y P made same says =
    subst (λ (z : Result Bool AuditFault). Says z (P x)) (sym made) (subst (λ (z : Remark). Says (audit r) (P z)) (sym same) (says_audit (P y) r says))

pub did_says : (setup : Setup) (start : Volume) (t : Turn) (past h : History) (r : Result Bool NoMemory) (v w : Volume) (x : Remark) (n : ℕ) (at : Time) (choice : Choice) → v ≡ volume_after start h
    → w ≡ after_note h x (volume_after start h) → x ≡ Did n at choice → Says r (IsWiredDidIf setup past t (t ∷ past) v w n choice (asked h n)) → Says r (MayNote setup start past t h (Did n at choice))
did_says setup start t past h r v w x n at choice before after same says =
    subst (λ (u : Volume). Says r (IsWiredDidIf setup past t (t ∷ past) (volume_after start h) u n choice (asked h n))) (after ∙ ap (λ (z : Remark). after_note h z (volume_after start h)) same)
    (subst (λ (u : Volume). Says r (IsWiredDidIf setup past t (t ∷ past) u w n choice (asked h n))) before says)

pub flush_says : (setup : Setup) (start : Volume) (t : Turn) (past h : History) (r : Result Bool NoMemory) (v w : Volume) (x : Remark) (f : ℕ) → v ≡ volume_after start h
    → w ≡ after_note h x (volume_after start h) → x ≡ Flush f → Says r (IsWiredFlush setup past t (t ∷ past) v w) → Says r (MayNote setup start past t h (Flush f))
flush_says setup start t past h r v w x f before after same says =
    subst (λ (u : Volume). Says r (IsWiredFlush setup past t (t ∷ past) (volume_after start h) u)) (after ∙ ap (λ (z : Remark). after_note h z (volume_after start h)) same)
    (subst (λ (u : Volume). Says r (IsWiredFlush setup past t (t ∷ past) u w)) before says)
