-- The docket of a history without turns, and of one whose newest turn begins.
use Rattle.std.proofs.Common.{◌≡◌, ℕ, zero, suc, false, true, List, [], ◌∷◌, ◌++◌, refl, ap, sym, subst, ◌∙◌, length}
use Rattle.std.proofs.lemmas.Option.{same_Some}
use Rattle.std.specs.Prelude.{Option, Some, None, option_map, Result, Ok, Err, OnOk}
use Rattle.sl_past.specs.Words.{happening_of}
use Rattle.sl_past.specs.declared.happening.Happening as past
use Rattle.sl_past.specs.declared.happening.Happening.TheVariants as happening
use Rattle.std.specs.List.{slice_get}
use Rattle.sl_defs.specs.Histories.{Happens, event_count}
use Rattle.sl_defs.specs.declared.event.Event.{Event}
use Rattle.sl_defs.specs.declared.setup.Time.{Time}
use Rattle.sl_model.specs.Volume.{Volume}
use Rattle.sl_history.specs.Turns.{History, turn_of}
use Rattle.sl_history.specs.Frames.{is_up, up_by}
use Rattle.sl_history.specs.Volumes.{volume_after}
use Rattle.sl_history.specs.Legal.{any_in}
use Rattle.sl_datagram.specs.Datagrams.{datagram_of}
use Rattle.sl_referee.specs.declared.case.Answer.{Answer}
use Rattle.sl_referee.specs.declared.case.Case.{Case}
use Rattle.sl_referee.specs.declared.docket.Docket.{Docket}
use Rattle.sl_referee.specs.Dockets.{IsCase, IsDocketOf, IsEffectIf}
use Rattle.sl_history.specs.Turns.{begun}
use Rattle.sl_referee.specs.Notes.{IsEventBegun}
use Rattle.sl_referee.proofs.Beginning.{begins_event}

first_case : (start : Volume) (c : Case) → c.datagram ≡ None → c.effect ≡ None → c.replied ≡ false → IsCase start [] 0 c
unfolding turn_of any_in
first_case start c none idle unanswered = record {
  turn = none;
  datagram = ap (option_map datagram_of) none;
  effect = subst (λ (o : Option Answer). IsEffectIf start [] 0 o) (sym idle) refl;
  replied = unanswered;
}

none_is_some : {A : Type 0} → (x : A) → None ≡ Some x → ⊥
none_is_some x e = cc

only_case : (start : Volume) (c0 : Case) → IsCase start [] 0 c0 → (n : ℕ) (c : Case) → slice_get (c0 ∷ []) n ≡ Some c → IsCase start [] n c
only_case start c0 is zero c got = subst (λ (x : Case). IsCase start [] 0 x) (same_Some c0 c got) is
only_case start c0 is (suc n) c got = absurd (none_is_some c got)

pub new_docket : (d : Docket) (c0 : Case) → d.cases.items ≡ c0 ∷ [] → d.ends.items ≡ [] → d.is_proxy_up ≡ false → d.is_event ≡ false
    → c0.datagram ≡ None → c0.effect ≡ None → c0.replied ≡ false → IsDocketOf d.volume [] d
unfolding any_in volume_after is_up
new_docket d c0 cases ends up event none idle unanswered = record {
  count = ap length cases;
  cases = λ n c got. only_case d.volume c0 (first_case d.volume c0 none idle unanswered) n c (ap (λ (cs : List Case). slice_get cs n) (sym cases) ∙ got);
  later = λ n above. record { undone = refl; unanswered = refl };
  volume = refl;
  ended = ap length ends;
  ends = λ n v got. absurd (none_is_some v (ap (λ (vs : List Volume). slice_get vs n) (sym ends) ∙ got));
  up = up;
  event = event;
}

-- an event begins, and it is known whether the proxy is up
pub event_begins : (e : Event) (moment : Time) (old mid new : Docket) (start : Volume) (past : History) → IsDocketOf start past old
    → mid.cases.items ≡ old.cases.items → mid.ends.items ≡ old.ends.items → mid.volume ≡ old.volume → mid.is_proxy_up ≡ up_by (Happens e) 0 old.is_proxy_up
    → mid.is_event ≡ true → IsEventBegun e moment mid new → IsDocketOf start (begun past (Happens e) moment) new
event_begins e moment old mid new start past is cases ends volume up first now =
    begins_event start past (Happens e) moment old new now.case is refl (now.cases ∙ ap (λ (cs : List Case). cs ++ now.case ∷ []) cases) (now.volume ∙ volume)
    (now.ends ∙ ap (λ (vs : List Volume). vs ++ mid.volume ∷ []) ends ∙ ap (λ (v : Volume). old.ends.items ++ v ∷ []) volume) (now.up ∙ up) (now.first ∙ first)
    now.is.moment_is now.is.datagram now.is.dropped now.is.effect now.is.replied

pub on_ok : {T E P Q : Type 0} → (r : Result T E) → (P → Q) → OnOk r P → OnOk r Q
on_ok (Ok x) f p = f p
on_ok (Err e) f p = tt

pub no_event : (h : past.Happening) → ((e : Event) → h ≡ happening.Happens e → ⊥) → event_count (happening_of h) ≡ 0
no_event (happening.Opens setup) other = refl
no_event (happening.Reaches moment) other = refl
no_event (happening.Happens e) other = absurd (other e refl)
