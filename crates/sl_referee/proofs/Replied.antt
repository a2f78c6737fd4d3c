-- What a case of a call says of its reply.
use Rattle.std.proofs.Common.{◌≡◌, ℕ, ◌-◌, Bool, true, false, List, length, refl, sym, subst, ◌∙◌, ◌↔◌}
use Rattle.std.proofs.lemmas.Bool.{iff_false, true≢false}
use Rattle.std.specs.Prelude.{Some, Ok, Err, Result, IfErr, option_map, unwrap_or}
use Rattle.std.specs.List.{slice_get}
use Rattle.sl_defs.specs.declared.setup.Time.{Time}
use Rattle.sl_model.specs.Volume.{Volume}
use Rattle.sl_history.specs.Turns.{Replied, History, turn_of}
use Rattle.sl_history.specs.Arrivals.{Asked, IsAsked, is_changing}
use Rattle.sl_history.specs.Legal.{IsAnswerBy, IsReplyIf, datagram_in, no_choice}
use Rattle.sl_datagram.specs.Datagrams.{datagram_of}
use Rattle.sl_referee.specs.declared.case.Case.{Case}
use Rattle.sl_referee.specs.declared.docket.Docket.{Docket}
use Rattle.sl_referee.specs.declared.fault.RefereeFault.{RefereeFault}
use Rattle.sl_referee.specs.Cases.{IsAnswerIf, IsLookAt}
use Rattle.sl_history.specs.Deciding.{Says}
use Rattle.sl_referee.specs.Dockets.{IsDocketOf}
use Rattle.sl_referee.specs.Stops.{StopsAt, StopsBy}
use Rattle.sl_referee.proofs.Deciding.{case_asks, looked, looks, of_effect, replied, replies, volume_there, was_of_effect}
use Rattle.sl_referee.proofs.Taking.{newest_is, reply_stops}

says_either : {P Q : Type 0} → (b : Bool) → (P → Q) → (Q → P) → ((b ≡ true) ↔ P) → Says {E = RefereeFault} (Ok b) Q
says_either true f g both = f (both.0 refl)
says_either false f g both = λ q. iff_false both refl (g q)

pub says_same : {P Q : Type 0} → (r : Result Bool RefereeFault) → (P → Q) → (Q → P) → Says r P → Says r Q
says_same (Ok true) f g says = f says
says_same (Ok false) f g says = λ q. says (g q)
says_same (Err e) f g says = tt

-- of a call that may change something
pub changed_reply : (d : Docket) (now : Time) (n e : ℕ) (bytes : List ℕ) (c : Case) (a : Asked) (b : Bool) → option_map datagram_of c.datagram ≡ Some (IsAsked a)
    → is_changing a.call ≡ true → ((b ≡ true) ↔ IsAnswerIf e bytes c.effect) → (start : Volume) (h : History) → IsDocketOf start h d → slice_get d.cases.items n ≡ Some c
    → Says {E = RefereeFault} (Ok b) (IsReplyIf start h now n e bytes (datagram_in (turn_of h n)))
changed_reply d now n e bytes c a b asks changing both start h is got =
    let case_is = is.cases n c got in
    let asked_is = case_asks start h n c a case_is asks in
    says_either b
    (λ right. replies start h now n e bytes c (IsAsked a) case_is asks
    (subst (λ (x : Bool). IsAnswerBy x start h now n e bytes a) (sym changing) (of_effect start h n e bytes a c.effect case_is.effect asked_is right)))
    (λ right. was_of_effect start h n e bytes a c.effect case_is.effect asked_is
    (subst (λ (x : Bool). IsAnswerBy x start h now n e bytes a) changing (replied start h now n e bytes c (IsAsked a) case_is asks right)))
    both

-- of a call that only asks
pub looked_reply : (d : Docket) (now : Time) (n e k : ℕ) (bytes : List ℕ) (c : Case) (a : Asked) (v : Volume) (r : Result Bool RefereeFault)
    → option_map datagram_of c.datagram ≡ Some (IsAsked a) → is_changing a.call ≡ false → k ≡ length d.cases.items - 1 → v ≡ unwrap_or (slice_get d.ends.items e) d.volume
    → Says r (IsLookAt c v now n e k bytes a) → (start : Volume) (h : History) → IsDocketOf start h d → slice_get d.cases.items n ≡ Some c
    → Says r (IsReplyIf start h now n e bytes (datagram_in (turn_of h n)))
looked_reply d now n e k bytes c a v r asks asking last there says start h is got =
    let case_is = is.cases n c got in
    let newest = newest_is start h d k is last in
    let same = there ∙ volume_there start h d e is in
    says_same r
    (λ right. replies start h now n e bytes c (IsAsked a) case_is asks
    (subst (λ (x : Bool). IsAnswerBy x start h now n e bytes a) (sym asking) (looks start h d now n e k bytes c a v is got asks same newest right)))
    (λ right. looked start h d now n e k bytes c a v is got asks same newest
    (subst (λ (x : Bool). IsAnswerBy x start h now n e bytes a) asking (replied start h now n e bytes c (IsAsked a) case_is asks right)))
    says

-- performing what a call asks for stops
pub look_stops : (d : Docket) (now : Time) (n e : ℕ) (bytes : List ℕ) (c : Case) (a : Asked) (v : Volume) (r : Result Bool RefereeFault)
    → option_map datagram_of c.datagram ≡ Some (IsAsked a) → v ≡ unwrap_or (slice_get d.ends.items e) d.volume → IfErr r (λ f. StopsAt f v a now no_choice)
    → (start : Volume) (h : History) → IsDocketOf start h d → slice_get d.cases.items n ≡ Some c → IfErr r (λ f. StopsBy f start h now (Replied n e bytes))
look_stops d now n e bytes c a v (Ok b) asks there stops start h is got = tt
look_stops d now n e bytes c a v (Err f) asks there stops start h is got = reply_stops d now n e bytes c a v f start h is got asks there stops

pub says_true : (b : Bool) (P : Type 0) → b ≡ true → Says {E = RefereeFault} (Ok b) P → P
says_true true P e says = says
says_true false P e says = absurd (true≢false (sym e))

pub says_false : (b : Bool) (P : Type 0) → b ≡ false → Says {E = RefereeFault} (Ok b) P → P → ⊥
says_false true P e says = absurd (true≢false e)
says_false false P e says = says
