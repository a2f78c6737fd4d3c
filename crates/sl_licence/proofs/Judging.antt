-- Whether a note may stand, from what is asked of it before the one server takes it and from its reply.
use Rattle.std.proofs.Common.{◌≡◌, ℕ, Bool, true, false, ◌∷◌, refl, sym, Option, Some, None}
use Rattle.std.proofs.lemmas.Bool.{true≢false}
use Rattle.std.specs.Prelude.{Ok, ◌↔◌, option_map}
use Rattle.sl_defs.specs.declared.setup.Time.{Time}
use Rattle.sl_defs.specs.declared.note.Choice.{Choice}
use Rattle.sl_model.specs.Perform.{perform}
use Rattle.sl_model.specs.Volume.{Volume}
use Rattle.sl_history.specs.Turns.{Remark, Sent, Did, Flush, Verf, Replied, Junk, Early, Full, Lost, Down, Turn, History, noted}
use Rattle.sl_history.specs.Arrivals.{Asked, asked}
use Rattle.sl_history.specs.Deciding.{Says}
use Rattle.sl_history.specs.Licensed.{IsLicensedEffectIf}
use Rattle.sl_history.specs.Volumes.{volume_after}
use Rattle.sl_ledger.specs.declared.fault.AuditFault.{AuditFault}
use Rattle.sl_licence.specs.declared.crowds.Crowds.{Crowds}
use Rattle.sl_licence.specs.declared.docket.Docket.{Docket}
use Rattle.sl_licence.specs.Crowds.{AreCrowdsOf}
use Rattle.sl_licence.specs.Dockets.{IsDocketOf, IsKeptRightly, Judges, MayCome, MayStand}
use Rattle.sl_licence.specs.Evidence.{HasSpace, HasSpaceIf}

effect_stands : (start : Volume) (h : History) (n : ℕ) (at : Time) (choice : Choice) (o : Option Asked) → IsKeptRightly start h n choice o
    → HasSpaceIf h n (option_map (λ (a : Asked). (perform (volume_after start h) a.call a.cred at choice).1) o) → IsLicensedEffectIf start h n at choice o
effect_stands start h n at choice None kept space = kept
effect_stands start h n at choice (Some a) kept space = record { kept = kept; no_space = space }

effect_parts : (start : Volume) (h : History) (n : ℕ) (at : Time) (choice : Choice) (o : Option Asked) → IsLicensedEffectIf start h n at choice o
    → IsKeptRightly start h n choice o × HasSpaceIf h n (option_map (λ (a : Asked). (perform (volume_after start h) a.call a.cred at choice).1) o)
effect_parts start h n at choice None never = absurd never
effect_parts start h n at choice (Some a) licensed = (licensed.kept, licensed.no_space)

comes_stands : (r : Remark) (start : Volume) (h : History) → MayCome start h r → HasSpace (volume_after start h) h r → MayStand start h r
comes_stands (Sent k f) start h comes space = tt
comes_stands (Did n at choice) start h comes space = effect_stands start h n at choice (asked h n) comes space
comes_stands (Flush f) start h comes space = comes
comes_stands (Verf v) start h comes space = comes
comes_stands (Replied n e bytes) start h comes space = tt
comes_stands (Junk n) start h comes space = tt
comes_stands (Early n) start h comes space = tt
comes_stands (Full n) start h comes space = tt
comes_stands (Lost n) start h comes space = tt
comes_stands (Down a) start h comes space = tt

stands_comes : (r : Remark) (start : Volume) (h : History) → MayStand start h r → MayCome start h r × HasSpace (volume_after start h) h r
stands_comes (Sent k f) start h stands = (tt, tt)
stands_comes (Did n at choice) start h stands = effect_parts start h n at choice (asked h n) stands
stands_comes (Flush f) start h stands = (stands, tt)
stands_comes (Verf v) start h stands = (stands, tt)
stands_comes (Replied n e bytes) start h stands = (tt, tt)
stands_comes (Junk n) start h stands = (tt, tt)
stands_comes (Early n) start h stands = (tt, tt)
stands_comes (Full n) start h stands = (tt, tt)
stands_comes (Lost n) start h stands = (tt, tt)
stands_comes (Down a) start h stands = (tt, tt)

-- ---- what a note is judged to be

-- whether it may come, before the one server takes it
abbrev pub Comes : Crowds → Docket → Remark → Bool → Type 0
Comes cs d r may = (start : Volume) (t : Turn) (past : History) → IsDocketOf start (t ∷ past) d → AreCrowdsOf start past cs → (may ≡ true) ↔ MayCome start (t ∷ past) r

says_of : (b : Bool) (P Q : Type 0) → ((b ≡ true) ↔ P) → (P → Q) → (Q → P) → Says {E = AuditFault} (Ok b) Q
says_of true P Q both there back = there (both.0 refl)
says_of false P Q both there back = λ q. true≢false (sym (both.1 (back q)))

pub judges_by : (cs : Crowds) (d d' : Docket) (r : Remark) (may b : Bool) → may ≡ true → Comes cs d r may
    → ((start : Volume) (t : Turn) (past : History) → IsDocketOf start (t ∷ past) d → (b ≡ true) ↔ HasSpace (volume_after start (t ∷ past)) (t ∷ past) r)
    → ((start : Volume) (t : Turn) (past : History) → IsDocketOf start (t ∷ past) d → (d'.evidence ≡ d.evidence) × (d'.volume ≡ volume_after start (noted (t ∷ past) r)))
    → Judges cs d d' r (Ok b)
judges_by cs d d' r may b passes comes space serves = record {
  decides = λ start t past is are.
      says_of b (HasSpace (volume_after start (t ∷ past)) (t ∷ past) r) (MayStand start (t ∷ past) r) (space start t past is)
      (λ has. comes_stands r start (t ∷ past) ((comes start t past is are).0 passes) has) (λ stands. (stands_comes r start (t ∷ past) stands).1);
  serves = λ ok start t past is. serves start t past is;
  stopped = λ start t past is. tt;
}
