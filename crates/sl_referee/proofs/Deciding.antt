-- What each point of the definition says of a docket.
use Rattle.std.proofs.Common.{◌≡◌, ℕ, zero, suc, ◌+◌, ◌<◌, ◌≤◌, eqb, eqb-true, true, false, List, [], ◌∷◌, length, refl, ap, sym, subst, ◌∙◌, arith, ◌⊎◌}
use Rattle.std.proofs.lemmas.Bool.{and_parts, cond-false, false_from_ne_true, or_parts, true≢false}
use Rattle.std.proofs.lemmas.Option.{same_Some}
use Rattle.std.specs.Prelude.{Option, Some, None, option_and_then, option_map, unwrap_or}
use Rattle.std.specs.List.{slice_get}
use Rattle.std.specs.FinMap as map
use Rattle.sl_defs.specs.Histories.{event_count}
use Rattle.sl_defs.specs.declared.setup.Time.{Time}
use Rattle.sl_defs.specs.declared.note.Choice.{Choice}
use Rattle.sl_types.specs.Numbers.{is_ok_status}
use Rattle.sl_model.specs.Volume.{Volume}
use Rattle.sl_model.specs.Laws.{status_of}
use Rattle.sl_model.specs.Perform.{perform}
use Rattle.sl_history.specs.Turns.{Remark, Sent, Did, Flush, Verf, Replied, Junk, Early, Full, Lost, Down, Turn, History, events, is_event, turn_of}
use Rattle.sl_history.specs.Frames.{or_else}
use Rattle.sl_history.specs.Arrivals as arrivals
use Rattle.sl_history.specs.Arrivals.{Asked, IsJunk, IsAnswered, IsAsked, answer_to, asked, asked_by, asked_in, datagram, is_changing}
use Rattle.sl_history.specs.Volumes.{Effect, after_note, effect, effect_among, outcome, volume_after, volume_at}
use Rattle.sl_history.specs.Legal.{IsDrop, IsEffect, IsImmediate, IsLook, IsOfEffect, IsOfEffectIf, IsReplyIf, IsReplyTo, NotAfter, any_among, any_in, datagram_in, is_did, is_kept, is_settled, moment_of, no_choice, was_dropped}
use Rattle.sl_datagram.specs.Datagrams.{datagram_of}
use Rattle.sl_referee.specs.declared.case.Answer.{Answer}
use Rattle.sl_referee.specs.declared.case.Case.{Case}
use Rattle.sl_referee.specs.declared.docket.Docket.{Docket}
use Rattle.sl_referee.specs.Cases.{IsAnswerIf, IsAtOnce, IsIdle, IsLookAt, TakesEffect}
use Rattle.sl_referee.specs.Dockets.{IsCase, IsDocketOf, IsEffectIf, IsOfTurn}
use Rattle.sl_referee.proofs.Beginning.{volume_at_end}

-- ---- what arrived

asked_is : (o : Option Turn) → option_and_then asked_by o ≡ option_and_then asked_in (option_map datagram (datagram_in o))
asked_is None = refl
asked_is (Some t) = by_datagram (datagram_in (Some t))
  where
    by_datagram : (d : Option (List ℕ)) → option_and_then (λ bytes. asked_in (datagram bytes)) d ≡ option_and_then asked_in (option_map datagram d)
    by_datagram None = refl
    by_datagram (Some bytes) = refl

-- a case that asks is of a call that asks
pub case_asks : (start : Volume) (h : History) (n : ℕ) (c : Case) (a : Asked) → IsCase start h n c → option_map datagram_of c.datagram ≡ Some (IsAsked a)
    → asked h n ≡ Some a
unfolding asked
case_asks start h n c a is e = asked_is (turn_of h n) ∙ ap (option_and_then asked_in) (sym is.datagram ∙ e)

-- one that doesn't is of none
pub case_asks_nothing : (start : Volume) (h : History) (n : ℕ) (c : Case) → IsCase start h n c → option_and_then asked_in (option_map datagram_of c.datagram) ≡ None
    → asked h n ≡ None
unfolding asked
case_asks_nothing start h n c is e = asked_is (turn_of h n) ∙ ap (option_and_then asked_in) (sym is.datagram) ∙ e

-- ---- events that were not

pub past_end : {A : Type 0} → (xs : List A) (n : ℕ) → slice_get xs n ≡ None → length xs ≤ n
past_end [] n e = omega arith
past_end (x ∷ xs) zero e = absurd (some_is_none x e)
  where
    some_is_none : {A : Type 0} → (x : A) → Some x ≡ None → ⊥
    some_is_none x e = cc
past_end (x ∷ xs) (suc n) e = let below = past_end xs n e in omega (arith, below)

not_of : (past : History) (t : Turn) (n : ℕ) → events (t ∷ past) < n → is_event past t n ≡ false
not_of past t n above = false_from_ne_true (is_event past t n) (λ (e : is_event past t n ≡ true).
    let both = and_parts (eqb (event_count t.happening) 1) (eqb (events past + 1) n) e in
    let one = eqb-true (event_count t.happening) 1 both.0 in
    let number = eqb-true (events past + 1) n both.1 in
    omega (arith, one, number, above))

no_turn : (h : History) (n : ℕ) → events h < n → turn_of h n ≡ None
unfolding turn_of
no_turn [] n above = refl
no_turn (t ∷ past) n above =
    cond-false (is_event past t n) (Some t) (turn_of past n) (not_of past t n above) ∙ no_turn past n (omega (arith, above))

pub no_event : (start : Volume) (h : History) (d : Docket) (n : ℕ) → IsDocketOf start h d → slice_get d.cases.items n ≡ None → turn_of h n ≡ None
no_event start h d n is e =
    let long = past_end d.cases.items n e in
    no_turn h n (omega (arith, long, is.count))

pub asks_none : (h : History) (n : ℕ) → turn_of h n ≡ None → asked h n ≡ None
unfolding asked
asks_none h n e = ap (option_and_then asked_by) e

-- ---- effects

undone_among : (h : History) (n : ℕ) (rs : List Remark) (v : Volume) → any_among (is_did n) rs ≡ false → effect_among h n rs v ≡ None
undone_among h n [] v e = refl
undone_among h n (Sent k f ∷ rs) v e = undone_among h n rs v e
undone_among h n (Did k at choice ∷ rs) v e =
    let both = or_parts (eqb k n) (any_among (is_did n) rs) e in
    cond-false (eqb k n) (Some (record { event = events h; before = v; at = at; choice = choice })) (effect_among h n rs (after_note h (Did k at choice) v)) both.0
    ∙ undone_among h n rs (after_note h (Did k at choice) v) both.1
undone_among h n (Flush f ∷ rs) v e = undone_among h n rs (after_note h (Flush f) v) e
undone_among h n (Verf x ∷ rs) v e = undone_among h n rs (after_note h (Verf x) v) e
undone_among h n (Replied k x bytes ∷ rs) v e = undone_among h n rs v e
undone_among h n (Junk k ∷ rs) v e = undone_among h n rs v e
undone_among h n (Early k ∷ rs) v e = undone_among h n rs v e
undone_among h n (Full k ∷ rs) v e = undone_among h n rs v e
undone_among h n (Lost k ∷ rs) v e = undone_among h n rs v e
undone_among h n (Down a ∷ rs) v e = undone_among h n rs v e

pub undone : (start : Volume) (h : History) (n : ℕ) → any_in (is_did n) h ≡ false → effect start h n ≡ None
unfolding any_in effect
undone start [] n e = refl
undone start (t ∷ past) n e =
    let both = or_parts (any_in (is_did n) past) (any_among (is_did n) t.remarks) e in
    ap (λ (o : Option Effect). or_else o (effect_among (t ∷ past) n t.remarks (volume_after start past))) (undone start past n both.0)
    ∙ undone_among (t ∷ past) n t.remarks (volume_after start past) both.1

was_undone : (start : Volume) (h : History) (n : ℕ) (o : Option Answer) → IsEffectIf start h n o → o ≡ None → any_in (is_did n) h ≡ false
was_undone start h n None is e = is
was_undone start h n (Some y) is e = absurd (some_is_none y e)
  where
    some_is_none : {A : Type 0} → (x : A) → Some x ≡ None → ⊥
    some_is_none x e = cc

has_none : (start : Volume) (h : History) (n : ℕ) (o : Option Answer) → IsEffectIf start h n o → any_in (is_did n) h ≡ false → o ≡ None
has_none start h n None is e = refl
has_none start h n (Some y) is e = absurd (true≢false (sym is.0 ∙ e))

-- where something arrived, the case has its turn's moment and drops
turn_words : (o : Option Turn) (n : ℕ) (c : Case) (now : Time) (x : arrivals.Datagram) → IsOfTurn n c o → option_map datagram_of c.datagram ≡ Some x
    → (was_dropped o n ≡ c.dropped) × (moment_of o now ≡ c.moment)
turn_words None n c now x is e = absurd (none_is_some x (sym (ap (option_map datagram_of) is) ∙ e))
  where
    none_is_some : {A : Type 0} → (x : A) → None ≡ Some x → ⊥
    none_is_some x e = cc
turn_words (Some t) n c now x is e = (sym is.1, sym is.0)

pub effect_first : (start : Volume) (h : History) (n : ℕ) (c : Case) → IsCase start h n c → c.effect ≡ None → effect start h n ≡ None
effect_first start h n c is e = undone start h n (was_undone start h n c.effect is.effect e)

pub takes_effect : (start : Volume) (h : History) (d : Docket) (now at : Time) (n : ℕ) (choice : Choice) (c : Case) (a : Asked)
    → IsDocketOf start h d → slice_get d.cases.items n ≡ Some c → option_map datagram_of c.datagram ≡ Some (IsAsked a)
    → TakesEffect c a d.volume now at choice → IsEffect start h now n at choice a
takes_effect start h d now at n choice c a is got asks takes =
    let case_is = is.cases n c got in
    let words = turn_words (turn_of h n) n c now (IsAsked a) case_is.turn asks in
    record {
      changing = takes.begins.changing;
      accepted = words.0 ∙ takes.begins.accepted;
      first = was_undone start h n c.effect case_is.effect takes.begins.first;
      after_arrival = subst (λ (m : Time). NotAfter m at) (sym words.1) takes.begins.after_arrival;
      not_later = takes.begins.not_later;
      unused = subst (λ (v : Volume). (choice.fileid ≡ 0) ⊎ (map.get v.used choice.fileid ≡ None)) is.volume takes.begins.unused;
      kept = subst (λ (v : Volume). choice.kept ≡ is_kept (perform v a.call a.cred at choice).1) is.volume takes.kept;
    }

pub took_effect : (start : Volume) (h : History) (d : Docket) (now at : Time) (n : ℕ) (choice : Choice) (c : Case) (a : Asked)
    → IsDocketOf start h d → slice_get d.cases.items n ≡ Some c → option_map datagram_of c.datagram ≡ Some (IsAsked a)
    → IsEffect start h now n at choice a → TakesEffect c a d.volume now at choice
took_effect start h d now at n choice c a is got asks has =
    let case_is = is.cases n c got in
    let words = turn_words (turn_of h n) n c now (IsAsked a) case_is.turn asks in
    record {
      begins = record {
        changing = has.changing;
        accepted = sym words.0 ∙ has.accepted;
        first = has_none start h n c.effect case_is.effect has.first;
        after_arrival = subst (λ (m : Time). NotAfter m at) words.1 has.after_arrival;
        not_later = has.not_later;
        unused = subst (λ (v : Volume). (choice.fileid ≡ 0) ⊎ (map.get v.used choice.fileid ≡ None)) (sym is.volume) has.unused;
      };
      kept = subst (λ (v : Volume). choice.kept ≡ is_kept (perform v a.call a.cred at choice).1) (sym is.volume) has.kept;
    }

-- ---- drops

pub is_idle : (start : Volume) (h : History) (d : Docket) (n : ℕ) → IsDocketOf start h d → IsIdle (slice_get d.cases.items n) → IsDrop h n
is_idle start h d n is idle = by_case (slice_get d.cases.items n) refl idle
  where
    by_case : (o : Option Case) → slice_get d.cases.items n ≡ o → IsIdle o → IsDrop h n
    by_case None e idle =
        let long = past_end d.cases.items n e in
        let unknown = is.later n (omega (arith, long, is.count)) in
        record { undone = unknown.undone; unanswered = unknown.unanswered }
    by_case (Some c) e idle =
        let case_is = is.cases n c e in
        record { undone = was_undone start h n c.effect case_is.effect idle.0; unanswered = sym case_is.replied ∙ idle.1 }

pub was_idle : (start : Volume) (h : History) (d : Docket) (n : ℕ) → IsDocketOf start h d → IsDrop h n → IsIdle (slice_get d.cases.items n)
was_idle start h d n is drop = by_case (slice_get d.cases.items n) refl
  where
    by_case : (o : Option Case) → slice_get d.cases.items n ≡ o → IsIdle o
    by_case None e = tt
    by_case (Some c) e =
        let case_is = is.cases n c e in
        (has_none start h n c.effect case_is.effect drop.undone, case_is.replied ∙ drop.unanswered)

-- ---- replies

reply_if : (start : Volume) (h : History) (now : Time) (n e : ℕ) (bytes : List ℕ) (x : arrivals.Datagram) (o : Option (List ℕ)) → Some x ≡ option_map datagram o
    → IsReplyTo start h now n e bytes x → IsReplyIf start h now n e bytes o
reply_if start h now n e bytes x None same is = absurd (some_is_none x same)
  where
    some_is_none : {A : Type 0} → (x : A) → Some x ≡ None → ⊥
    some_is_none x e = cc
reply_if start h now n e bytes x (Some d) same is = subst (λ (y : arrivals.Datagram). IsReplyTo start h now n e bytes y) (same_Some x (datagram d) same) is

reply_from : (start : Volume) (h : History) (now : Time) (n e : ℕ) (bytes : List ℕ) (x : arrivals.Datagram) (o : Option (List ℕ)) → Some x ≡ option_map datagram o
    → IsReplyIf start h now n e bytes o → IsReplyTo start h now n e bytes x
reply_from start h now n e bytes x None same is = absurd is
reply_from start h now n e bytes x (Some d) same is = subst (λ (y : arrivals.Datagram). IsReplyTo start h now n e bytes y) (sym (same_Some x (datagram d) same)) is

-- what the reply has to be, by what the case is of
pub replies : (start : Volume) (h : History) (now : Time) (n e : ℕ) (bytes : List ℕ) (c : Case) (x : arrivals.Datagram) → IsCase start h n c
    → option_map datagram_of c.datagram ≡ Some x → IsReplyTo start h now n e bytes x → IsReplyIf start h now n e bytes (datagram_in (turn_of h n))
replies start h now n e bytes c x is same right = reply_if start h now n e bytes x (datagram_in (turn_of h n)) (sym same ∙ is.datagram) right

pub replied : (start : Volume) (h : History) (now : Time) (n e : ℕ) (bytes : List ℕ) (c : Case) (x : arrivals.Datagram) → IsCase start h n c
    → option_map datagram_of c.datagram ≡ Some x → IsReplyIf start h now n e bytes (datagram_in (turn_of h n)) → IsReplyTo start h now n e bytes x
replied start h now n e bytes c x is same right = reply_from start h now n e bytes x (datagram_in (turn_of h n)) (sym same ∙ is.datagram) right

none_arrived : (start : Volume) (h : History) (now : Time) (n e : ℕ) (bytes : List ℕ) (o : Option (List ℕ)) → option_map datagram o ≡ None → IsReplyIf start h now n e bytes o → ⊥
none_arrived start h now n e bytes None same is = is
none_arrived start h now n e bytes (Some d) same is = some_is_none (datagram d) same
  where
    some_is_none : {A : Type 0} → (x : A) → Some x ≡ None → ⊥
    some_is_none x e = cc

pub nothing_arrived : (start : Volume) (h : History) (now : Time) (n e : ℕ) (bytes : List ℕ) (c : Case) → IsCase start h n c → c.datagram ≡ None
    → IsReplyIf start h now n e bytes (datagram_in (turn_of h n)) → ⊥
nothing_arrived start h now n e bytes c is none = none_arrived start h now n e bytes (datagram_in (turn_of h n)) (sym is.datagram ∙ ap (option_map datagram_of) none)

pub no_event_replied : (start : Volume) (h : History) (d : Docket) (now : Time) (n e : ℕ) (bytes : List ℕ) → IsDocketOf start h d → slice_get d.cases.items n ≡ None
    → IsReplyIf start h now n e bytes (datagram_in (turn_of h n)) → ⊥
no_event_replied start h d now n e bytes is missing right =
    subst (λ (o : Option Turn). IsReplyIf start h now n e bytes (datagram_in o)) (no_event start h d n is missing) right

-- the answer of the effect
pub of_effect : (start : Volume) (h : History) (n e : ℕ) (bytes : List ℕ) (a : Asked) (o : Option Answer) → IsEffectIf start h n o → asked h n ≡ Some a
    → IsAnswerIf e bytes o → IsOfEffectIf e bytes a (effect start h n)
of_effect start h n e bytes a None is asks right = absurd right
of_effect start h n e bytes a (Some y) is asks right =
    let same = same_Some is.1.a a (sym is.1.asks ∙ asks) in
    subst (λ (x : Option Effect). IsOfEffectIf e bytes a x) (sym is.1.has) (record {
      event = right.event ∙ is.1.event;
      reply = right.reply ∙ is.1.bytes ∙ ap (λ (b : Asked). answer_to b (outcome b is.1.x).1) same;
    })

pub was_of_effect : (start : Volume) (h : History) (n e : ℕ) (bytes : List ℕ) (a : Asked) (o : Option Answer) → IsEffectIf start h n o → asked h n ≡ Some a
    → IsOfEffectIf e bytes a (effect start h n) → IsAnswerIf e bytes o
was_of_effect start h n e bytes a None is asks right = subst (λ (x : Option Effect). IsOfEffectIf e bytes a x) (undone start h n is) right
was_of_effect start h n e bytes a (Some y) is asks right =
    let same = same_Some is.1.a a (sym is.1.asks ∙ asks) in
    let there : IsOfEffect e bytes a is.1.x = subst (λ (x : Option Effect). IsOfEffectIf e bytes a x) is.1.has right in
    record {
      event = there.event ∙ sym is.1.event;
      reply = there.reply ∙ sym (is.1.bytes ∙ ap (λ (b : Asked). answer_to b (outcome b is.1.x).1) same);
    }

-- the volume at the end of an event
pub volume_there : (start : Volume) (h : History) (d : Docket) (e : ℕ) → IsDocketOf start h d → unwrap_or (slice_get d.ends.items e) d.volume ≡ volume_at start h e
volume_there start h d e is = by_end (slice_get d.ends.items e) refl
  where
    by_end : (o : Option Volume) → slice_get d.ends.items e ≡ o → unwrap_or o d.volume ≡ volume_at start h e
    by_end None none =
        let long = past_end d.ends.items e none in
        is.volume ∙ sym (volume_at_end start h e (omega (arith, long, is.ended)))
    by_end (Some v) had = is.ends e v had

pub looks : (start : Volume) (h : History) (d : Docket) (now : Time) (n e newest : ℕ) (bytes : List ℕ) (c : Case) (a : Asked) (v : Volume)
    → IsDocketOf start h d → slice_get d.cases.items n ≡ Some c → option_map datagram_of c.datagram ≡ Some (IsAsked a) → v ≡ volume_at start h e → newest ≡ events h
    → IsLookAt c v now n e newest bytes a → IsLook start h now n e bytes a
looks start h d now n e newest bytes c a v is got asks same last right =
    let words = turn_words (turn_of h n) n c now (IsAsked a) (is.cases n c got).turn asks in
    record {
      accepted = words.0 ∙ right.accepted;
      not_before = right.not_before;
      not_later = subst (λ (k : ℕ). e ≤ k) last right.not_later;
      reply = right.reply ∙ ap (λ (u : Volume). answer_to a (perform u a.call a.cred now no_choice).1) same;
      settled = subst (λ (u : Volume). is_ok_status (status_of (perform u a.call a.cred now no_choice).1) ≡ true → is_settled u a.call ≡ true) same right.settled;
    }

pub looked : (start : Volume) (h : History) (d : Docket) (now : Time) (n e newest : ℕ) (bytes : List ℕ) (c : Case) (a : Asked) (v : Volume)
    → IsDocketOf start h d → slice_get d.cases.items n ≡ Some c → option_map datagram_of c.datagram ≡ Some (IsAsked a) → v ≡ volume_at start h e → newest ≡ events h
    → IsLook start h now n e bytes a → IsLookAt c v now n e newest bytes a
looked start h d now n e newest bytes c a v is got asks same last right =
    let words = turn_words (turn_of h n) n c now (IsAsked a) (is.cases n c got).turn asks in
    record {
      accepted = sym words.0 ∙ right.accepted;
      not_before = right.not_before;
      not_later = subst (λ (k : ℕ). e ≤ k) (sym last) right.not_later;
      reply = right.reply ∙ ap (λ (u : Volume). answer_to a (perform u a.call a.cred now no_choice).1) (sym same);
      settled = subst (λ (u : Volume). is_ok_status (status_of (perform u a.call a.cred now no_choice).1) ≡ true → is_settled u a.call ≡ true) (sym same) right.settled;
    }

pub at_once : (start : Volume) (h : History) (d : Docket) (n e newest : ℕ) (bytes answer : List ℕ) → IsDocketOf start h d → newest ≡ events h
    → IsAtOnce d.is_proxy_up newest n e bytes answer → IsImmediate h n e bytes answer
at_once start h d n e newest bytes answer is last right =
    record { up = sym is.up ∙ right.is_up; at_arrival = right.at_arrival ∙ last; event = right.event; reply = right.reply }

pub was_at_once : (start : Volume) (h : History) (d : Docket) (n e newest : ℕ) (bytes answer : List ℕ) → IsDocketOf start h d → newest ≡ events h
    → IsImmediate h n e bytes answer → IsAtOnce d.is_proxy_up newest n e bytes answer
was_at_once start h d n e newest bytes answer is last right =
    record { is_up = is.up ∙ right.up; at_arrival = right.at_arrival ∙ sym last; event = right.event; reply = right.reply }
