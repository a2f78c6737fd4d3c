-- How a docket follows the beginning of a turn.
use Rattle.std.proofs.Common.{◌≡◌, ℕ, zero, suc, ◌+◌, ◌<◌, ◌≤◌, eqb, leb, eqb-true, eq-eqb, Bool, true, false, ◌&&◌, List, [], ◌∷◌, ◌++◌, length, length-append, refl, ap, sym, subst, ◌∙◌, arith, ◌⊎◌, inl, inr}
use Rattle.std.proofs.Math.Bool.{or-false, and-true}
use Rattle.std.proofs.lemmas.Bool.{and_parts, cond-false, cond-true, le-leb, lt-leb, false_from_ne_true}
use Rattle.std.proofs.lemmas.Option.{same_Some, slice_get_within}
use Rattle.std.specs.Prelude.{Option, Some, None, option_and_then, option_map}
use Rattle.std.specs.List.{slice_get}
use Rattle.sl_defs.specs.Histories.{Happening, event_count}
use Rattle.sl_defs.specs.declared.setup.Time.{Time}
use Rattle.sl_model.specs.Volume.{Volume}
use Rattle.sl_history.specs.Turns as turns
use Rattle.sl_history.specs.Turns.{Remark, Turn, History, events, is_event, turn_of}
use Rattle.sl_history.specs.Frames.{is_up, or_else, up_by}
use Rattle.sl_history.specs.Arrivals as arrivals
use Rattle.sl_history.specs.Arrivals.{asked, asked_by}
use Rattle.sl_history.specs.Volumes.{effect, volume_after, volume_at}
use Rattle.sl_history.specs.Legal.{any_in, datagram_in, is_did, is_reply}
use Rattle.sl_datagram.specs.Datagrams.{datagram_of}
use Rattle.sl_referee.specs.declared.case.Answer.{Answer}
use Rattle.sl_referee.specs.declared.case.Case.{Case}
use Rattle.sl_referee.specs.declared.docket.Docket.{Docket}
use Rattle.sl_referee.specs.Dockets.{IsCase, IsDocketOf, IsEffectIf, IsOfTurn, IsUnknown, is_event_first}
use Rattle.sl_history.specs.Turns.{begun}

-- ---- the history

opened : Happening → Time → Turn
opened happening moment = record { happening = happening; moment = moment; remarks = [] }

any_in-begun : (is : Remark → Bool) (past : History) (happening : Happening) (moment : Time) → any_in is (begun past happening moment) ≡ any_in is past
unfolding any_in
any_in-begun is past happening moment = or-false (any_in is past)

older : (past : History) (t : Turn) (n : ℕ) → n < events past + 1 → is_event past t n ≡ false
older past t n below = false_from_ne_true (is_event past t n) (λ (e : is_event past t n ≡ true).
    let both = and_parts (eqb (event_count t.happening) 1) (eqb (events past + 1) n) e in
    let number = eqb-true (events past + 1) n both.1 in
    omega (arith, number, below))

turn_of-begun : (past : History) (happening : Happening) (moment : Time) (n : ℕ) → n < events past + 1 → turn_of (begun past happening moment) n ≡ turn_of past n
unfolding turn_of
turn_of-begun past happening moment n below =
    cond-false (is_event past (record { happening = happening; moment = moment; remarks = [] }) n) (Some (record { happening = happening; moment = moment; remarks = [] })) (turn_of past n)
    (older past (record { happening = happening; moment = moment; remarks = [] }) n below)

turn_of-new : (past : History) (happening : Happening) (moment : Time) (n : ℕ) → event_count happening ≡ 1 → n ≡ events past + 1
    → turn_of (begun past happening moment) n ≡ Some (record { happening = happening; moment = moment; remarks = [] })
unfolding turn_of
turn_of-new past happening moment n one number =
    cond-true (is_event past (record { happening = happening; moment = moment; remarks = [] }) n) (Some (record { happening = happening; moment = moment; remarks = [] })) (turn_of past n)
    (ap (λ (b : Bool). b && eqb (events past + 1) n) (eq-eqb (event_count happening) 1 one) ∙ eq-eqb (events past + 1) n (sym number))

asked-begun : (past : History) (happening : Happening) (moment : Time) (n : ℕ) → n < events past + 1 → asked (begun past happening moment) n ≡ asked past n
unfolding asked
asked-begun past happening moment n below = ap (option_and_then asked_by) (turn_of-begun past happening moment n below)

or_else_none : {A : Type 0} → (o : Option A) → or_else o None ≡ o
or_else_none None = refl
or_else_none (Some x) = refl

effect-begun : (start : Volume) (past : History) (happening : Happening) (moment : Time) (n : ℕ) → effect start (begun past happening moment) n ≡ effect start past n
unfolding effect
effect-begun start past happening moment n = or_else_none (effect start past n)

volume_after-begun : (start : Volume) (past : History) (happening : Happening) (moment : Time) → volume_after start (begun past happening moment) ≡ volume_after start past
unfolding volume_after
volume_after-begun start past happening moment = refl

volume_at-begun : (start : Volume) (past : History) (happening : Happening) (moment : Time) (n : ℕ) → n < events past + event_count happening
    → volume_at start (begun past happening moment) n ≡ volume_at start past n
unfolding volume_at
volume_at-begun start past happening moment n below =
    cond-false (leb (events past + event_count happening) n) (volume_after start (begun past happening moment)) (volume_at start past n)
    (lt-leb (events past + event_count happening) n below)

-- from the newest event on, the volume is that after the history
pub volume_at_end : (start : Volume) (h : History) (n : ℕ) → events h ≤ n → volume_at start h n ≡ volume_after start h
unfolding volume_at volume_after
volume_at_end start [] n above = refl
volume_at_end start (t ∷ past) n above =
    cond-true (leb (events (t ∷ past)) n) (volume_after start (t ∷ past)) (volume_at start past n) (le-leb (events (t ∷ past)) n above)

is_up-begun : (past : History) (happening : Happening) (moment : Time) (a : ℕ) → is_up (begun past happening moment) a ≡ up_by happening a (is_up past a)
unfolding is_up
is_up-begun past happening moment a = and-true (up_by happening a (is_up past a))

-- ---- cases

effect_if : (start : Volume) (past : History) (happening : Happening) (moment : Time) (n : ℕ) (o : Option Answer) → n < events past + 1 → IsEffectIf start past n o
    → IsEffectIf start (begun past happening moment) n o
effect_if start past happening moment n None below is = any_in-begun (is_did n) past happening moment ∙ is
effect_if start past happening moment n (Some y) below is = (
  any_in-begun (is_did n) past happening moment ∙ is.0,
  record {
    a = is.1.a;
    x = is.1.x;
    asks = asked-begun past happening moment n below ∙ is.1.asks;
    has = effect-begun start past happening moment n ∙ is.1.has;
    event = is.1.event;
    bytes = is.1.bytes;
  },
)

old_case : (start : Volume) (past : History) (happening : Happening) (moment : Time) (n : ℕ) (c : Case) → n < events past + 1 → IsCase start past n c
    → IsCase start (begun past happening moment) n c
old_case start past happening moment n c below is =
    let same = turn_of-begun past happening moment n below in
    record {
      turn = subst (λ (o : Option Turn). IsOfTurn n c o) (sym same) is.turn;
      datagram = is.datagram ∙ ap (λ (o : Option Turn). option_map arrivals.datagram (datagram_in o)) (sym same);
      effect = effect_if start past happening moment n c.effect below is.effect;
      replied = is.replied ∙ sym (any_in-begun (is_reply n) past happening moment);
    }

new_case : (start : Volume) (past : History) (happening : Happening) (moment : Time) (n : ℕ) (c : Case) → event_count happening ≡ 1 → n ≡ events past + 1
    → IsUnknown past n → c.moment ≡ moment → option_map datagram_of c.datagram ≡ option_map arrivals.datagram (turns.datagram_of happening)
    → c.dropped ≡ false → c.effect ≡ None → c.replied ≡ false → IsCase start (begun past happening moment) n c
new_case start past happening moment n c one number unknown when datagram dropped none unanswered =
    let same = turn_of-new past happening moment n one number in
    record {
      turn = subst (λ (o : Option Turn). IsOfTurn n c o) (sym same) (when, dropped);
      datagram = datagram ∙ ap (λ (o : Option Turn). option_map arrivals.datagram (datagram_in o)) (sym same);
      effect = subst (λ (o : Option Answer). IsEffectIf start (begun past happening moment) n o) (sym none) (any_in-begun (is_did n) past happening moment ∙ unknown.undone);
      replied = unanswered ∙ sym (any_in-begun (is_reply n) past happening moment ∙ unknown.unanswered);
    }

still_unknown : (past : History) (happening : Happening) (moment : Time) (n : ℕ) → IsUnknown past n → IsUnknown (begun past happening moment) n
still_unknown past happening moment n is = record {
  undone = any_in-begun (is_did n) past happening moment ∙ is.undone;
  unanswered = any_in-begun (is_reply n) past happening moment ∙ is.unanswered;
}

-- the last element, or one before
last_or : {A : Type 0} → (xs : List A) (y : A) (n : ℕ) (x : A) → slice_get (xs ++ y ∷ []) n ≡ Some x → (slice_get xs n ≡ Some x) ⊎ ((n ≡ length xs) × (x ≡ y))
last_or [] y zero x e = inr (refl, same_Some x y (sym e))
last_or [] y (suc n) x e = absurd (none_is_none x e)
  where
    none_is_none : {A : Type 0} → (x : A) → None ≡ Some x → ⊥
    none_is_none x e = cc
last_or (z ∷ xs) y zero x e = inl e
last_or (z ∷ xs) y (suc n) x e =
    elim (last_or xs y n x e) as (λ w. (slice_get xs n ≡ Some x) ⊎ ((suc n ≡ suc (length xs)) × (x ≡ y))) [
      | inl had ↦ inl had
      | inr last ↦ inr (ap suc last.0, last.1)
    ]

-- ---- the docket

-- a turn that is no event
pub begins_quietly : (start : Volume) (past : History) (happening : Happening) (moment : Time) (d d' : Docket) → IsDocketOf start past d → event_count happening ≡ 0
    → d'.cases.items ≡ d.cases.items → d'.volume ≡ d.volume → d'.ends.items ≡ d.ends.items → d'.is_proxy_up ≡ up_by happening 0 d.is_proxy_up → d'.is_event ≡ false
    → IsDocketOf start (begun past happening moment) d'
begins_quietly start past happening moment d d' is zero_events cases volume ends up first = record {
  count = ap length cases ∙ is.count ∙ ap (λ (k : ℕ). k + 1) (omega (arith, zero_events));
  cases = λ n c got.
      let had = ap (λ (cs : List Case). slice_get cs n) (sym cases) ∙ got in
      let within = slice_get_within d.cases.items n c had in
      old_case start past happening moment n c (omega (arith, is.count, within)) (is.cases n c had);
  later = λ n above. still_unknown past happening moment n (is.later n (omega (arith, zero_events, above)));
  volume = volume ∙ is.volume ∙ sym (volume_after-begun start past happening moment);
  ended = ap length ends ∙ is.ended ∙ omega (arith, zero_events);
  ends = λ n v got.
      let had = ap (λ (vs : List Volume). slice_get vs n) (sym ends) ∙ got in
      let within = slice_get_within d.ends.items n v had in
      is.ends n v had ∙ sym (volume_at-begun start past happening moment n (omega (arith, is.ended, within)));
  up = up ∙ ap (up_by happening 0) is.up ∙ sym (is_up-begun past happening moment 0);
  event = subst (λ (b : Bool). is_event_first (begun past happening moment) b) (sym first) zero_events;
}

-- an event
pub begins_event : (start : Volume) (past : History) (happening : Happening) (moment : Time) (d d' : Docket) (c : Case) → IsDocketOf start past d
    → event_count happening ≡ 1 → d'.cases.items ≡ d.cases.items ++ c ∷ [] → d'.volume ≡ d.volume → d'.ends.items ≡ d.ends.items ++ d.volume ∷ []
    → d'.is_proxy_up ≡ up_by happening 0 d.is_proxy_up → d'.is_event ≡ true
    → c.moment ≡ moment → option_map datagram_of c.datagram ≡ option_map arrivals.datagram (turns.datagram_of happening)
    → c.dropped ≡ false → c.effect ≡ None → c.replied ≡ false → IsDocketOf start (begun past happening moment) d'
begins_event start past happening moment d d' c is one cases volume ends up first when datagram dropped none unanswered = record {
  count = ap length cases ∙ length-append d.cases.items (c ∷ []) ∙ omega (arith, is.count, one);
  cases = λ n c' got.
      elim (last_or d.cases.items c n c' (ap (λ (cs : List Case). slice_get cs n) (sym cases) ∙ got))
      as (λ (w : (slice_get d.cases.items n ≡ Some c') ⊎ ((n ≡ length d.cases.items) × (c' ≡ c))). IsCase start (begun past happening moment) n c') [
        | inl had ↦
            let within = slice_get_within d.cases.items n c' had in
            old_case start past happening moment n c' (omega (arith, is.count, within)) (is.cases n c' had)
        | inr last ↦
            let number : n ≡ events past + 1 = last.0 ∙ is.count in
            let above : events past < n = omega (arith, number) in
            subst (λ (x : Case). IsCase start (begun past happening moment) n x) (sym last.1)
            (new_case start past happening moment n c one number (is.later n above) when datagram dropped none unanswered)
      ];
  later = λ n above. still_unknown past happening moment n (is.later n (omega (arith, one, above)));
  volume = volume ∙ is.volume ∙ sym (volume_after-begun start past happening moment);
  ended = ap length ends ∙ length-append d.ends.items (d.volume ∷ []) ∙ omega (arith, is.ended, one);
  ends = λ n v got.
      elim (last_or d.ends.items d.volume n v (ap (λ (vs : List Volume). slice_get vs n) (sym ends) ∙ got))
      as (λ (w : (slice_get d.ends.items n ≡ Some v) ⊎ ((n ≡ length d.ends.items) × (v ≡ d.volume))). v ≡ volume_at start (begun past happening moment) n) [
        | inl had ↦
            let within = slice_get_within d.ends.items n v had in
            is.ends n v had ∙ sym (volume_at-begun start past happening moment n (omega (arith, is.ended, within, one)))
        | inr last ↦
            let number : n ≡ events past = last.0 ∙ is.ended in
            last.1 ∙ is.volume ∙ sym (volume_at_end start past n (omega (arith, number)))
            ∙ sym (volume_at-begun start past happening moment n (omega (arith, number, one)))
      ];
  up = up ∙ ap (up_by happening 0) is.up ∙ sym (is_up-begun past happening moment 0);
  event = subst (λ (b : Bool). is_event_first (begun past happening moment) b) (sym first) one;
}
