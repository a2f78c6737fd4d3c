-- How a docket follows a history from note to note.
use Rattle.std.proofs.Common.{◌≡◌, ℕ, ◌+◌, ◌<◌, eqb, eqb-true, eq-eqb, Bool, true, false, cond, not, ◌&&◌, ◌||◌, List, [], ◌∷◌, ◌++◌, length, refl, ap, sym, subst, ◌∙◌, arith, ◌⊎◌, inl, inr}
use Rattle.std.proofs.Math.Bool.{or-false, and-true}
use Rattle.std.proofs.lemmas.Bool.{and_parts, cases_eq, ne_eqb, true≢false}
use Rattle.std.proofs.lemmas.Option.{same_Some, slice_get_within}
use Rattle.std.specs.Prelude.{Option, Some, None, option_map}
use Rattle.std.specs.List.{slice_get}
use Rattle.sl_defs.specs.Histories.{event_count}
use Rattle.sl_defs.specs.declared.setup.Time.{Time}
use Rattle.sl_defs.specs.declared.note.Choice.{Choice}
use Rattle.sl_model.specs.Volume.{Volume}
use Rattle.sl_model.specs.Perform.{perform}
use Rattle.sl_history.specs.Turns.{Remark, Did, Replied, Turn, History, events, is_event, so_far, turn_of}
use Rattle.sl_history.specs.Frames.{is_down, or_else}
use Rattle.sl_history.specs.Arrivals as arrivals
use Rattle.sl_history.specs.Arrivals.{Asked, answer_to, asked, drops, drops_any}
use Rattle.sl_history.specs.Volumes.{Effect, after_note, effect, effect_among, performed, volume_after}
use Rattle.sl_history.specs.Legal.{any_in, datagram_in, is_did, is_reply}
use Rattle.sl_datagram.specs.Datagrams.{datagram_of}
use Rattle.sl_referee.specs.declared.case.Answer.{Answer}
use Rattle.sl_referee.specs.declared.case.Case.{Case}
use Rattle.sl_referee.specs.declared.docket.Docket.{Docket}
use Rattle.sl_referee.specs.Dockets.{IsCase, IsDocketOf, IsDropOf, IsEffectIf, IsEffectOf, IsOfTurn, IsSetAt, is_event_first, with_drop, with_effect, with_reply}
use Rattle.sl_history.specs.Turns.{noted}
use Rattle.sl_referee.proofs.Noting.{any_in-noted, asked-noted, drops_any-append, effect-noted, is_up-noted, volume_after-noted, volume_at-noted}

-- ---- one case

of_turn : (b : Bool) (n : ℕ) (c : Case) (t : Turn) (o : Option Turn) (r : Remark) → (b ≡ true → drops n r ≡ false)
    → IsOfTurn n c (cond b (Some t) o) → IsOfTurn n c (cond b (Some (so_far t (t.remarks ++ r ∷ []))) o)
of_turn true n c t o r free is =
    (is.0, is.1 ∙ sym (drops_any-append n t.remarks r ∙ ap (λ (b : Bool). drops_any n t.remarks || b) (free refl) ∙ or-false (drops_any n t.remarks)))
of_turn false n c t o r free is = is

same_datagram : (b : Bool) (t : Turn) (o : Option Turn) (r : Remark)
    → datagram_in (cond b (Some t) o) ≡ datagram_in (cond b (Some (so_far t (t.remarks ++ r ∷ []))) o)
same_datagram true t o r = refl
same_datagram false t o r = refl

still : (is : Remark → Bool) (t : Turn) (past : History) (r : Remark) (b : Bool) → is r ≡ false → b ≡ any_in is (t ∷ past) → b ≡ any_in is (noted (t ∷ past) r)
still is t past r b off e =
    e ∙ sym (any_in-noted is t past r ∙ ap (λ (x : Bool). any_in is (t ∷ past) || x) off ∙ or-false (any_in is (t ∷ past)))

now_true : (is : Remark → Bool) (t : Turn) (past : History) (r : Remark) → any_in is (t ∷ past) ≡ true → any_in is (noted (t ∷ past) r) ≡ true
now_true is t past r e = any_in-noted is t past r ∙ ap (λ (x : Bool). x || is r) e

effect_of : (start : Volume) (t : Turn) (past : History) (r : Remark) (n : ℕ) (y : Answer) → IsEffectOf start (t ∷ past) n y
    → IsEffectOf start (noted (t ∷ past) r) n y
effect_of start t past r n y is = record {
  a = is.a;
  x = is.x;
  asks = asked-noted t past r n ∙ is.asks;
  has = effect-noted start t past r n ∙ ap (λ (o : Option Effect). or_else o (effect_among (t ∷ past) n (r ∷ []) (volume_after start (t ∷ past)))) is.has;
  event = is.event;
  bytes = is.bytes;
}

effect_if : (start : Volume) (t : Turn) (past : History) (r : Remark) (n : ℕ) (o : Option Answer) → is_did n r ≡ false → IsEffectIf start (t ∷ past) n o
    → IsEffectIf start (noted (t ∷ past) r) n o
effect_if start t past r n None off is = sym (still (is_did n) t past r false off (sym is))
effect_if start t past r n (Some y) off is = (now_true (is_did n) t past r is.0, effect_of start t past r n y is.1)

-- a case of which the remark says nothing
pub case_stays : (start : Volume) (t : Turn) (past : History) (r : Remark) (n : ℕ) (c : Case) → is_did n r ≡ false → is_reply n r ≡ false
    → (is_event past t n ≡ true → drops n r ≡ false) → IsCase start (t ∷ past) n c → IsCase start (noted (t ∷ past) r) n c
unfolding turn_of
case_stays start t past r n c undone unanswered free is = record {
  turn = of_turn (is_event past t n) n c t (turn_of past n) r free is.turn;
  datagram = is.datagram ∙ ap (option_map arrivals.datagram) (same_datagram (is_event past t n) t (turn_of past n) r);
  effect = effect_if start t past r n c.effect undone is.effect;
  replied = still (is_reply n) t past r c.replied unanswered is.replied;
}

-- ---- the docket

event_first : (t : Turn) (past : History) (r : Remark) (b : Bool) → is_event_first (t ∷ past) b → is_event_first (noted (t ∷ past) r) b
event_first t past r true is = is
event_first t past r false is = is

-- What the docket has to be for one remark more.
pub record Follows (start : Volume) (t : Turn) (past : History) (r : Remark) (d d' : Docket) : Type 0 where
  pub count : length d'.cases.items ≡ length d.cases.items
  pub cases : (n : ℕ) (c : Case) → slice_get d'.cases.items n ≡ Some c → IsCase start (noted (t ∷ past) r) n c
  pub undone : (n : ℕ) → events (t ∷ past) < n → is_did n r ≡ false
  pub unanswered : (n : ℕ) → events (t ∷ past) < n → is_reply n r ≡ false
  pub volume : d'.volume ≡ after_note (t ∷ past) r d.volume
  pub ends : d'.ends.items ≡ d.ends.items
  pub up : d'.is_proxy_up ≡ (d.is_proxy_up && not (is_down 0 r))
  pub event : d'.is_event ≡ d.is_event

pub docket_follows : (start : Volume) (t : Turn) (past : History) (r : Remark) (d d' : Docket) → IsDocketOf start (t ∷ past) d → Follows start t past r d d'
    → IsDocketOf start (noted (t ∷ past) r) d'
docket_follows start t past r d d' is f = record {
  count = f.count ∙ is.count;
  cases = f.cases;
  later = λ n above. record {
    undone = sym (still (is_did n) t past r false (f.undone n above) (sym (is.later n above).undone));
    unanswered = sym (still (is_reply n) t past r false (f.unanswered n above) (sym (is.later n above).unanswered));
  };
  volume = f.volume ∙ ap (after_note (t ∷ past) r) is.volume ∙ sym (volume_after-noted start t past r);
  ended = ap length f.ends ∙ is.ended;
  ends = λ n v got.
      let had = ap (λ (vs : List Volume). slice_get vs n) (sym f.ends) ∙ got in
      let within = slice_get_within d.ends.items n v had in
      let below : n < events (t ∷ past) = omega (arith, is.ended, within) in
      is.ends n v had ∙ sym (volume_at-noted start t past r n below);
  up = f.up ∙ ap (λ (b : Bool). b && not (is_down 0 r)) is.up ∙ sym (is_up-noted t past r 0);
  event = subst (λ (b : Bool). is_event_first (noted (t ∷ past) r) b) (sym f.event) (event_first t past r d.is_event is.event);
}

-- where off case changes, and the remark is of off call
pub record IsQuiet (t : Turn) (past : History) (r : Remark) : Type 0 where
  pub undone : (n : ℕ) → is_did n r ≡ false
  pub unanswered : (n : ℕ) → is_reply n r ≡ false
  pub free : (n : ℕ) → is_event past t n ≡ true → drops n r ≡ false

pub quiet_follows : (start : Volume) (t : Turn) (past : History) (r : Remark) (d d' : Docket) → IsDocketOf start (t ∷ past) d → IsQuiet t past r
    → d'.cases.items ≡ d.cases.items → d'.volume ≡ after_note (t ∷ past) r d.volume → d'.ends.items ≡ d.ends.items
    → d'.is_proxy_up ≡ (d.is_proxy_up && not (is_down 0 r)) → d'.is_event ≡ d.is_event → IsDocketOf start (noted (t ∷ past) r) d'
quiet_follows start t past r d d' is q cases volume ends up event = docket_follows start t past r d d' is (record {
  count = ap length cases;
  cases = λ n c got. case_stays start t past r n c (q.undone n) (q.unanswered n) (q.free n)
      (is.cases n c (ap (λ (cs : List Case). slice_get cs n) (sym cases) ∙ got));
  undone = λ n above. q.undone n;
  unanswered = λ n above. q.unanswered n;
  volume = volume;
  ends = ends;
  up = up;
  event = event;
})

-- where one case changes
pub set_case : (start : Volume) (h : History) (old new : List Case) (n : ℕ) (change : Case → Case) (c : Case) → slice_get old n ≡ Some c → IsSetAt old new n change
    → IsCase start h n (change c) → ((m : ℕ) (c' : Case) → (m ≡ n → ⊥) → slice_get old m ≡ Some c' → IsCase start h m c')
    → (m : ℕ) (c' : Case) → slice_get new m ≡ Some c' → IsCase start h m c'
set_case start h old new n change c got set here others m c' is =
    elim (cases_eq m n) as (λ (w : (m ≡ n) ⊎ (m ≡ n → ⊥)). IsCase start h m c') [
      | inl e ↦
          let there = ap (λ (k : ℕ). slice_get new k) (sym e) ∙ is in
          let same = same_Some (change c) c' (sym (set.here c got) ∙ there) in
          subst (λ (k : ℕ). IsCase start h k c') (sym e) (subst (λ (x : Case). IsCase start h n x) same here)
      | inr other ↦ others m c' other (sym (set.others m other) ∙ is)
    ]

other_number : (n m : ℕ) → (m ≡ n → ⊥) → eqb n m ≡ false
other_number n m other = ne_eqb n m (λ (e : n ≡ m). other (sym e))

or_true : (b : Bool) → (b || true) ≡ true
or_true true = refl
or_true false = refl

kept_turn : (start : Volume) (t : Turn) (past : History) (r : Remark) (n : ℕ) (c : Case) → (is_event past t n ≡ true → drops n r ≡ false)
    → IsOfTurn n c (turn_of (t ∷ past) n) → IsOfTurn n c (turn_of (noted (t ∷ past) r) n)
unfolding turn_of
kept_turn start t past r n c free is = of_turn (is_event past t n) n c t (turn_of past n) r free is

kept_datagram : (start : Volume) (t : Turn) (past : History) (r : Remark) (n : ℕ) (c : Case)
    → option_map datagram_of c.datagram ≡ option_map arrivals.datagram (datagram_in (turn_of (t ∷ past) n))
    → option_map datagram_of c.datagram ≡ option_map arrivals.datagram (datagram_in (turn_of (noted (t ∷ past) r) n))
unfolding turn_of
kept_datagram start t past r n c is = is ∙ ap (option_map arrivals.datagram) (same_datagram (is_event past t n) t (turn_of past n) r)

-- ---- an effect

undone_effect : (start : Volume) (t : Turn) (past : History) (n : ℕ) (at : Time) (choice : Choice) → effect start (t ∷ past) n ≡ None
    → effect start (noted (t ∷ past) (Did n at choice)) n ≡ Some (record { event = events (t ∷ past); before = volume_after start (t ∷ past); at = at; choice = choice })
undone_effect start t past n at choice none =
    effect-noted start t past (Did n at choice) n
    ∙ ap (λ (o : Option Effect). or_else o (effect_among (t ∷ past) n (Did n at choice ∷ []) (volume_after start (t ∷ past)))) none
    ∙ ap (λ (b : Bool). cond b (Some (record { event = events (t ∷ past); before = volume_after start (t ∷ past); at = at; choice = choice })) None) (eq-eqb n n refl)

pub effect_follows : (start : Volume) (t : Turn) (past : History) (d d' : Docket) (n : ℕ) (at : Time) (choice : Choice) (c : Case) (a : Asked) (y : Answer)
    → IsDocketOf start (t ∷ past) d → slice_get d.cases.items n ≡ Some c → asked (t ∷ past) n ≡ Some a → effect start (t ∷ past) n ≡ None
    → IsSetAt d.cases.items d'.cases.items n (with_effect y) → y.event ≡ events (t ∷ past) → y.bytes ≡ answer_to a (perform d.volume a.call a.cred at choice).1
    → d'.volume ≡ (perform d.volume a.call a.cred at choice).0 → d'.ends.items ≡ d.ends.items → d'.is_proxy_up ≡ d.is_proxy_up → d'.is_event ≡ d.is_event
    → IsDocketOf start (noted (t ∷ past) (Did n at choice)) d'
effect_follows start t past d d' n at choice c a y is got asks none set event bytes volume ends up first =
    let r = Did n at choice in
    let was = is.cases n c got in
    let within = slice_get_within d.cases.items n c got in
    let low : n < events (t ∷ past) + 1 = omega (arith, is.count, within) in
    let stays = case_stays start t past r in
    let here : IsCase start (noted (t ∷ past) r) n (with_effect y c) = record {
      turn = kept_turn start t past r n c (λ (e : is_event past t n ≡ true). refl) was.turn;
      datagram = kept_datagram start t past r n c was.datagram;
      effect = (
        any_in-noted (is_did n) t past r ∙ ap (λ (b : Bool). any_in (is_did n) (t ∷ past) || b) (eq-eqb n n refl) ∙ or_true (any_in (is_did n) (t ∷ past)),
        record {
          a = a;
          x = record { event = events (t ∷ past); before = volume_after start (t ∷ past); at = at; choice = choice };
          asks = asked-noted t past r n ∙ asks;
          has = undone_effect start t past n at choice none;
          event = event;
          bytes = bytes ∙ ap (λ (v : Volume). answer_to a (perform v a.call a.cred at choice).1) is.volume;
        },
      );
      replied = still (is_reply n) t past r c.replied refl was.replied;
    } in
    docket_follows start t past r d d' is (record {
      count = set.count;
      cases = set_case start (noted (t ∷ past) r) d.cases.items d'.cases.items n (with_effect y) c got set here
          (λ m c' other had. stays m c' (other_number n m other) refl (λ (e : is_event past t m ≡ true). refl) (is.cases m c' had));
      undone = λ m above. other_number n m (λ (e : m ≡ n). omega (arith, low, above, e));
      unanswered = λ m above. refl;
      volume = volume ∙ ap (λ (o : Option Asked). performed o at choice d.volume) (sym asks);
      ends = ends;
      up = up ∙ sym (and-true d.is_proxy_up);
      event = first;
    })

-- ---- a reply

pub reply_follows : (start : Volume) (t : Turn) (past : History) (d d' : Docket) (n e : ℕ) (bytes : List ℕ) (c : Case)
    → IsDocketOf start (t ∷ past) d → slice_get d.cases.items n ≡ Some c → IsSetAt d.cases.items d'.cases.items n with_reply
    → d'.volume ≡ d.volume → d'.ends.items ≡ d.ends.items → d'.is_proxy_up ≡ d.is_proxy_up → d'.is_event ≡ d.is_event
    → IsDocketOf start (noted (t ∷ past) (Replied n e bytes)) d'
reply_follows start t past d d' n e bytes c is got set volume ends up first =
    let r = Replied n e bytes in
    let was = is.cases n c got in
    let within = slice_get_within d.cases.items n c got in
    let low : n < events (t ∷ past) + 1 = omega (arith, is.count, within) in
    let here : IsCase start (noted (t ∷ past) r) n (with_reply c) = record {
      turn = kept_turn start t past r n c (λ (x : is_event past t n ≡ true). refl) was.turn;
      datagram = kept_datagram start t past r n c was.datagram;
      effect = effect_if start t past r n c.effect refl was.effect;
      replied = sym (any_in-noted (is_reply n) t past r ∙ ap (λ (b : Bool). any_in (is_reply n) (t ∷ past) || b) (eq-eqb n n refl) ∙ or_true (any_in (is_reply n) (t ∷ past)));
    } in
    docket_follows start t past r d d' is (record {
      count = set.count;
      cases = set_case start (noted (t ∷ past) r) d.cases.items d'.cases.items n with_reply c got set here
          (λ m c' other had. case_stays start t past r m c' refl (other_number n m other) (λ (x : is_event past t m ≡ true). refl) (is.cases m c' had));
      undone = λ m above. refl;
      unanswered = λ m above. other_number n m (λ (x : m ≡ n). omega (arith, low, above, x));
      volume = volume;
      ends = ends;
      up = up ∙ sym (and-true d.is_proxy_up);
      event = first;
    })

-- ---- a drop

newest_event : (past : History) (t : Turn) (n : ℕ) → is_event past t n ≡ true → (event_count t.happening ≡ 1) × (n ≡ events (t ∷ past))
newest_event past t n e =
    let both = and_parts (eqb (event_count t.happening) 1) (eqb (events past + 1) n) e in
    let one = eqb-true (event_count t.happening) 1 both.0 in
    let number = eqb-true (events past + 1) n both.1 in
    (one, omega (arith, one, number))

-- the event is another one, or the newest turn is none
drop_elsewhere : (t : Turn) (past : History) (d : Docket) (n m : ℕ) → is_event_first (t ∷ past) d.is_event → (d.is_event ≡ true → n ≡ events (t ∷ past) → ⊥)
    → is_event past t m ≡ true → eqb n m ≡ false
drop_elsewhere t past d n m first other e =
    let newest = newest_event past t m e in
    ne_eqb n m (λ (same : n ≡ m). other (event_true t past d.is_event first newest.0) (same ∙ newest.1))
  where
    event_true : (t : Turn) (past : History) (b : Bool) → is_event_first (t ∷ past) b → event_count t.happening ≡ 1 → b ≡ true
    event_true t past true first one = refl
    event_true t past false first one = absurd (omega (arith, first, one))

-- it drops an older datagram, or none, or a turn's that is no event
pub old_drop_follows : (start : Volume) (t : Turn) (past : History) (d : Docket) (n : ℕ) (r : Remark) → IsDropOf n r → IsDocketOf start (t ∷ past) d
    → (d.is_event ≡ true → n ≡ events (t ∷ past) → ⊥) → IsDocketOf start (noted (t ∷ past) r) d
old_drop_follows start t past d n r is_drop is other = quiet_follows start t past r d d is
    (record {
      undone = is_drop.undone;
      unanswered = is_drop.unanswered;
      free = λ m e. is_drop.drops m ∙ drop_elsewhere t past d n m is.event other e;
    })
    refl (sym (is_drop.keeps (t ∷ past) d.volume)) refl (sym (ap (λ (b : Bool). d.is_proxy_up && not b) is_drop.up ∙ and-true d.is_proxy_up)) refl

event_one : (t : Turn) (past : History) (b : Bool) → is_event_first (t ∷ past) b → b ≡ true → event_count t.happening ≡ 1
event_one t past true first e = first
event_one t past false first e = absurd (true≢false (sym e))

is_newest : (past : History) (t : Turn) (n : ℕ) → event_count t.happening ≡ 1 → n ≡ events (t ∷ past) → is_event past t n ≡ true
is_newest past t n one newest =
    ap (λ (b : Bool). b && eqb (events past + 1) n) (eq-eqb (event_count t.happening) 1 one) ∙ eq-eqb (events past + 1) n (omega (arith, one, newest))

dropped_turn : (b : Bool) (n : ℕ) (c : Case) (t : Turn) (o : Option Turn) (r : Remark) → b ≡ true → drops n r ≡ true
    → IsOfTurn n c (cond b (Some t) o) → IsOfTurn n (with_drop c) (cond b (Some (so_far t (t.remarks ++ r ∷ []))) o)
dropped_turn true n c t o r e drop is =
    (is.0, sym (drops_any-append n t.remarks r ∙ ap (λ (b : Bool). drops_any n t.remarks || b) drop ∙ or_true (drops_any n t.remarks)))
dropped_turn false n c t o r e drop is = absurd (true≢false (sym e))

dropped_here : (t : Turn) (past : History) (r : Remark) (n : ℕ) (c : Case) → is_event past t n ≡ true → drops n r ≡ true
    → IsOfTurn n c (turn_of (t ∷ past) n) → IsOfTurn n (with_drop c) (turn_of (noted (t ∷ past) r) n)
unfolding turn_of
dropped_here t past r n c e drop is = dropped_turn (is_event past t n) n c t (turn_of past n) r e drop is

-- it drops the newest event's datagram
pub new_drop_follows : (start : Volume) (t : Turn) (past : History) (d d' : Docket) (n : ℕ) (r : Remark) (c : Case) → IsDropOf n r
    → IsDocketOf start (t ∷ past) d → d.is_event ≡ true → n ≡ events (t ∷ past) → slice_get d.cases.items n ≡ Some c
    → IsSetAt d.cases.items d'.cases.items n with_drop
    → d'.volume ≡ d.volume → d'.ends.items ≡ d.ends.items → d'.is_proxy_up ≡ d.is_proxy_up → d'.is_event ≡ d.is_event
    → IsDocketOf start (noted (t ∷ past) r) d'
new_drop_follows start t past d d' n r c is_drop is is_event_now newest got set volume ends up first =
    let was = is.cases n c got in
    let event = is_newest past t n (event_one t past d.is_event is.event is_event_now) newest in
    let drop = is_drop.drops n ∙ eq-eqb n n refl in
    let here : IsCase start (noted (t ∷ past) r) n (with_drop c) = record {
      turn = dropped_here t past r n c event drop was.turn;
      datagram = kept_datagram start t past r n c was.datagram;
      effect = effect_if start t past r n c.effect (is_drop.undone n) was.effect;
      replied = still (is_reply n) t past r c.replied (is_drop.unanswered n) was.replied;
    } in
    docket_follows start t past r d d' is (record {
      count = set.count;
      cases = set_case start (noted (t ∷ past) r) d.cases.items d'.cases.items n with_drop c got set here
          (λ m c' other had. case_stays start t past r m c' (is_drop.undone m) (is_drop.unanswered m)
          (λ (x : is_event past t m ≡ true). is_drop.drops m ∙ other_number n m other) (is.cases m c' had));
      undone = λ m above. is_drop.undone m;
      unanswered = λ m above. is_drop.unanswered m;
      volume = volume ∙ sym (is_drop.keeps (t ∷ past) d.volume);
      ends = ends;
      up = up ∙ sym (ap (λ (b : Bool). d.is_proxy_up && not b) is_drop.up ∙ and-true d.is_proxy_up);
      event = first;
    })
