-- How a docket follows a turn and a note.
use Rattle.std.proofs.Common.{◌≡◌, true, false, List, [], ◌∷◌, refl, ap, sym, subst, ◌∙◌, Option}
use Rattle.std.specs.Prelude.{Ok}
use Rattle.sl_defs.specs.declared.setup.Time.{Time}
use Rattle.sl_model.specs.Volume.{Volume}
use Rattle.sl_history.specs.Turns.{Remark, Sent, Did, Flush, Verf, Replied, Junk, Early, Full, Lost, Down, Turn, History, begun, noted}
use Rattle.sl_history.specs.Volumes.{volume_after}
use Rattle.sl_past.specs.Words.{happening_of}
use Rattle.sl_past.specs.declared.happening.Happening.{Happening}
use Rattle.sl_licence.specs.declared.asking.FlushRequest.{FlushRequest}
use Rattle.sl_licence.specs.declared.crowds.Crowds.{Crowds}
use Rattle.sl_licence.specs.declared.docket.Docket.{Docket}
use Rattle.sl_licence.specs.declared.evidence.Evidence.{Evidence}
use Rattle.sl_licence.specs.Asking.{new_request}
use Rattle.sl_licence.specs.Dockets.{IsDocketOf, Judges, MayStand, Notes, with_new}
use Rattle.sl_licence.specs.Evidence.{IsEvidenceOf, MayUse}

pub nothing_yet : (v : Volume) (e : Evidence) → IsEvidenceOf [] e → IsDocketOf v [] (record { evidence = e; volume = v })
unfolding volume_after
nothing_yet v e is = record { evidence = is; volume = refl }

pub begins : (start : Volume) (past : History) (happening : Happening) (moment : Time) (d d' : Docket)
    → (IsEvidenceOf past d.evidence → IsEvidenceOf (begun past (happening_of happening) moment) d'.evidence) → d'.volume ≡ d.volume → IsDocketOf start past d
    → IsDocketOf start (begun past (happening_of happening) moment) d'
unfolding volume_after
begins start past happening moment d d' f same is = record { evidence = f is.evidence; volume = same ∙ is.volume }

-- ---- a note

-- what a judged note is: a flush has a request left
may_use : (r : Remark) (start : Volume) (h : History) → MayStand start h r → MayUse h r
may_use (Sent k f) start h stands = tt
may_use (Did n at choice) start h stands = tt
may_use (Flush f) start h stands = stands.requested
may_use (Verf v) start h stands = tt
may_use (Replied n e bytes) start h stands = tt
may_use (Junk n) start h stands = tt
may_use (Early n) start h stands = tt
may_use (Full n) start h stands = tt
may_use (Lost n) start h stands = tt
may_use (Down a) start h stands = tt

-- The note was judged to stand, and then taken.
pub taken : (cs : Crowds) (d d1 d2 : Docket) (ws ws' : List FlushRequest) (r : Remark) (o : Option FlushRequest) → Judges cs d d1 r (Ok true)
    → ((h : History) → IsEvidenceOf h d1.evidence → o ≡ new_request h r)
    → ((t : Turn) (past : History) → IsEvidenceOf (t ∷ past) d1.evidence → MayUse (t ∷ past) r → IsEvidenceOf (noted (t ∷ past) r) d2.evidence)
    → d2.volume ≡ d1.volume → ws' ≡ with_new ws o → Notes cs d d2 ws ws' r (Ok true)
taken cs d d1 d2 ws ws' r o judges new takes same pushed = record {
  decides = judges.decides;
  takes = λ ok start t past is are.
      let served = judges.serves refl start t past is in
      let evidence : IsEvidenceOf (t ∷ past) d1.evidence = subst (λ (e : Evidence). IsEvidenceOf (t ∷ past) e) (sym served.0) is.evidence in (
        record {
          evidence = takes t past evidence (may_use r start (t ∷ past) (judges.decides start t past is are));
          volume = same ∙ served.1;
        },
        pushed ∙ ap (with_new ws) (new (t ∷ past) evidence),
      );
  stopped = λ start t past is. tt;
}

-- it was judged not to
pub refused : (cs : Crowds) (d d1 d2 : Docket) (ws ws' : List FlushRequest) (r : Remark) → Judges cs d d1 r (Ok false) → Notes cs d d2 ws ws' r (Ok false)
refused cs d d1 d2 ws ws' r judges = record { decides = judges.decides; takes = λ ok. absurd (cc); stopped = λ start t past is. tt }
