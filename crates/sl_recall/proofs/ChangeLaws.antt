-- The last calls that may change something, from turn to turn.
use Rattle.std.proofs.Common.{◌≡◌, ℕ, ◌<◌, ◌≤◌, ◌⊎◌, eqb-true, eq-eqb, Bool, true, false, not, ◌&&◌, ◌||◌, List, [], ◌∷◌, ◌++◌, Option, Some, None, refl, ap, sym, subst, ◌∙◌, arith, inl, inr}
use Rattle.std.proofs.lemmas.Bool.{ne_eqb, true≢false}
use Rattle.std.proofs.lemmas.Bool.Decides.{nat_tests}
use Rattle.std.specs.Prelude.{◌==◌, nat_le, if◌then◌else◌, option_and_then}
use Rattle.std.specs.List.{list_any}
use Rattle.sl_defs.specs.Histories.{Happening, Opens, Reaches, Happens, event_count}
use Rattle.sl_defs.specs.declared.setup.Time.{Time}
use Rattle.sl_history.specs.Turns.{Remark, Turn, History, begun, datagram_of, events, noted}
use Rattle.sl_history.specs.Arrivals.{Asked, arrives, asked_by, asked_in, datagram, drops, drops_any}
use Rattle.sl_history.specs.Remembering.{changes_by, comes}
use Rattle.sl_recall.specs.declared.changes.Changes.{Changes}
use Rattle.sl_recall.specs.Droppings.{IsDropOf}
use Rattle.sl_recall.specs.Changing.{AreChangesOf, brought, change_in, is_no_other, is_unchanged, past_of}

-- ---- tests of numbers

pub le_is : (a b : ℕ) → a ≤ b → nat_le a b ≡ true
le_is a b h = grind (arith, nat_tests, h)

pub is_le : (a b : ℕ) → nat_le a b ≡ true → a ≤ b
is_le a b h = grind (arith, nat_tests, h)

pub not_le : (a b : ℕ) → b < a → nat_le a b ≡ false
not_le a b h = grind (arith, nat_tests, h)

pub is_above : (a b : ℕ) → nat_le a b ≡ false → b < a
is_above a b h = grind (arith, nat_tests, h)

pub low : (m e n : ℕ) → m ≤ e → is_no_other m e n ≡ true
low m e n h = ap (λ b. b || (m == n)) (le_is m e h)

pub none_low : (e n : ℕ) → is_no_other 0 e n ≡ true
none_low e n = low 0 e n (omega arith)

-- a test that passes, passes behind a later event
pub later : (m e f n : ℕ) → e ≤ f → is_no_other m e n ≡ true → is_no_other m f n ≡ true
later m e f n h t = at (nat_le m e) refl t
  where
    at : (b : Bool) → nat_le m e ≡ b → (b || (m == n)) ≡ true → is_no_other m f n ≡ true
    at true s t = low m f n (omega (arith, h, is_le m e s))
    at false s t = at_end (nat_le m f) t
      where
        at_end : (b : Bool) → (m == n) ≡ true → (b || (m == n)) ≡ true
        at_end true t = refl
        at_end false t = t

-- ---- the call of the newest turn

-- the calls that come, by what they are and whether they are dropped
abbrev coming : Option Asked → Bool → ℕ → List ℕ
coming None d k = []
coming (Some a) d k = if d then [] else k ∷ []

arrives_is : (k : ℕ) (t : Turn) (o : Option Asked) → arrives k t o ≡ coming o (drops_any k t.remarks) k
arrives_is k t None = refl
arrives_is k t (Some a) = refl

coming_is : (o : Option Asked) (d : Bool) (k e n : ℕ) → e < k → not (list_any (λ m. not (m == n) && changes_by o) (coming o d k)) ≡ is_no_other (if d then 0 else if changes_by o then k else 0) e n
coming_is None true k e n h = sym (none_low e n)
coming_is None false k e n h = sym (none_low e n)
coming_is (Some a) true k e n h = sym (none_low e n)
coming_is (Some a) false k e n h = at (changes_by (Some a))
  where
    at : (b : Bool) → not (list_any (λ m. not (m == n) && b) (k ∷ [])) ≡ is_no_other (if b then k else 0) e n
    at true = by (k == n) ∙ sym (ap (λ b. b || (k == n)) (not_le k e h))
      where
        by : (c : Bool) → not ((not c && true) || false) ≡ c
        by true = refl
        by false = refl
    at false = by (k == n) ∙ sym (none_low e n)
      where
        by : (c : Bool) → not ((not c && false) || false) ≡ true
        by true = refl
        by false = refl

comes_is : (past : History) (t : Turn) (e n : ℕ) → e < events (t ∷ past) → not (comes past t n) ≡ is_no_other (change_in (t ∷ past)) e n
comes_is past t e n h =
    ap (λ ks. not (list_any (λ m. not (m == n) && changes_by (asked_by t)) ks)) (arrives_is (events (t ∷ past)) t (asked_by t))
    ∙ coming_is (asked_by t) (drops_any (events (t ∷ past)) t.remarks) (events (t ∷ past)) e n h

change_within : (h : History) → change_in h ≤ events h
change_within [] = omega arith
change_within (t ∷ past) = at (drops_any (events (t ∷ past)) t.remarks) (changes_by (asked_by t))
  where
    at : (d b : Bool) → (if d then 0 else if b then events (t ∷ past) else 0) ≤ events (t ∷ past)
    at true b = omega arith
    at false true = omega arith
    at false false = omega arith

-- ---- what is asked of it

and_swap : (a b : Bool) → (a && b) ≡ (b && a)
and_swap true true = refl
and_swap true false = refl
and_swap false true = refl
and_swap false false = refl

before_within : (h : History) (c : Changes) → AreChangesOf h c → c.before ≤ events (past_of h)
before_within h c is = at is.order
  where
    at : (((c.last ≡ 0) × (c.before ≡ 0)) ⊎ (c.before < c.last)) → c.before ≤ events (past_of h)
    at (inl z) = omega (arith, z.1)
    at (inr less) = omega (arith, less, is.within)

pub calm : (h : History) (c : Changes) (e n : ℕ) → AreChangesOf h c → (is_no_other c.newest e n && (is_no_other c.last e n && is_no_other c.before e n)) ≡ is_unchanged h e n
unfolding is_unchanged
calm [] c e n is = ap (λ m. is_no_other m e n && (is_no_other c.last e n && is_no_other c.before e n)) is.newest ∙ ap (λ b. b && (is_no_other c.last e n && is_no_other c.before e n)) (none_low e n) ∙ sym (is.past e n)
calm (t ∷ past) c e n is = at (nat_le (events (t ∷ past)) e) refl
  where
    at : (b : Bool) → nat_le (events (t ∷ past)) e ≡ b
        → (is_no_other c.newest e n && (is_no_other c.last e n && is_no_other c.before e n)) ≡ (if b then true else is_unchanged past e n && not (comes past t n))
    at true s =
        let le = is_le (events (t ∷ past)) e s in
        let bound : c.newest ≤ events (t ∷ past) = subst (λ m. m ≤ events (t ∷ past)) (sym is.newest) (change_within (t ∷ past)) in
        let one = low c.newest e n (omega (arith, le, bound)) in
        let two = low c.last e n (omega (arith, le, is.within)) in
        let three = low c.before e n (omega (arith, le, before_within (t ∷ past) c is)) in
        ap (λ b. b && (is_no_other c.last e n && is_no_other c.before e n)) one ∙ ap (λ b. b && is_no_other c.before e n) two ∙ three
    at false s =
        let less = is_above (events (t ∷ past)) e s in
        and_swap (is_no_other c.newest e n) (is_no_other c.last e n && is_no_other c.before e n)
        ∙ ap (λ b. b && is_no_other c.newest e n) (sym (is.past e n))
        ∙ ap (λ b. is_unchanged past e n && b) (ap (λ m. is_no_other m e n) is.newest ∙ sym (comes_is past t e n less))

-- two tests, and then the third
pub third : (a b c : Bool) → (a && b) ≡ true → c ≡ (a && (b && c))
third true true c t = refl
third true false c t = absurd (true≢false (sym t))
third false b c t = absurd (true≢false (sym t))

pub not_third : (a b c : Bool) → (a && b) ≡ false → (a && b) ≡ (a && (b && c))
not_third true true c t = absurd (true≢false t)
not_third true false c t = refl
not_third false b c t = refl

-- ---- a turn begins

pub nothing_changed : (c : Changes) → c.newest ≡ 0 → c.last ≡ 0 → c.before ≡ 0 → AreChangesOf [] c
unfolding is_unchanged
nothing_changed c a b d = record {
  newest = a;
  past = λ e n. sym (ap (λ m. is_no_other m e n && is_no_other c.before e n) b ∙ ap (λ m. is_no_other 0 e n && is_no_other m e n) d ∙ ap (λ x. x && is_no_other 0 e n) (none_low e n) ∙ none_low e n);
  within = omega (arith, b);
  order = inl (b, d);
}

by_happening : (x : Happening) → changes_by (option_and_then (λ bytes. asked_in (datagram bytes)) (datagram_of x)) ≡ true → event_count x ≡ 1
by_happening (Opens setup) e = absurd (true≢false (sym e))
by_happening (Reaches moment) e = absurd (true≢false (sym e))
by_happening (Happens event) e = refl

-- the turn that brings a call is an event
by_event : (t : Turn) → changes_by (asked_by t) ≡ true → event_count t.happening ≡ 1
by_event t e = by_happening t.happening e

newest_above : (past : History) (t : Turn) (last : ℕ) → last ≤ events past → (change_in (t ∷ past) ≡ 0 → ⊥) → last < change_in (t ∷ past)
newest_above past t last low some = at (drops_any (events (t ∷ past)) t.remarks) (changes_by (asked_by t)) refl some
  where
    at : (d b : Bool) → changes_by (asked_by t) ≡ b → ((if d then 0 else if b then events (t ∷ past) else 0) ≡ 0 → ⊥) → last < (if d then 0 else if b then events (t ∷ past) else 0)
    at true b e some = absurd (some refl)
    at false false e some = absurd (some refl)
    at false true e some = omega (arith, low, by_event t e)

pub newer : (h : History) (c : Changes) → AreChangesOf h c → (c.newest ≡ 0 → ⊥) → c.last < c.newest
newer [] c is some = absurd (some is.newest)
newer (t ∷ past) c is some = subst (λ m. c.last < m) (sym is.newest) (newest_above past t c.last is.within (λ z. some (is.newest ∙ z)))

-- where the two newest pass, so does the one before
covered : (newest last before e n : ℕ) → before < last → last < newest → (is_no_other newest e n && (is_no_other last e n && is_no_other before e n)) ≡ (is_no_other newest e n && is_no_other last e n)
covered newest last before e n b l = at (is_no_other newest e n) (is_no_other last e n) refl refl
  where
    passes : is_no_other newest e n ≡ true → is_no_other last e n ≡ true → is_no_other before e n ≡ true
    passes x y = by (nat_le last e) (nat_le newest e) refl refl x y
      where
        by : (p q : Bool) → nat_le last e ≡ p → nat_le newest e ≡ q → (q || (newest == n)) ≡ true → (p || (last == n)) ≡ true → is_no_other before e n ≡ true
        by true q s t x y = low before e n (omega (arith, b, is_le last e s))
        by false true s t x y = low before e n (omega (arith, b, l, is_le newest e t))
        by false false s t x y = absurd (omega (arith, l, eqb-true newest n x, eqb-true last n y))

    at : (x y : Bool) → is_no_other newest e n ≡ x → is_no_other last e n ≡ y → (x && (y && is_no_other before e n)) ≡ (x && y)
    at true true x y = passes x y
    at true false x y = refl
    at false y x z = refl

past_within : (h : History) → events (past_of h) ≤ events h
past_within [] = omega arith
past_within (t ∷ past) = omega arith

pub begins_quiet : (h : History) (c c' : Changes) (x : Happening) (m : Time) → AreChangesOf h c → c.newest ≡ 0 → c'.newest ≡ brought h (record { happening = x; moment = m; remarks = [] }) → c'.last ≡ c.last → c'.before ≡ c.before
    → AreChangesOf (begun h x m) c'
begins_quiet h c c' x m is none new last before = record {
  newest = new;
  past = λ e n. sym (calm h c e n is) ∙ ap (λ k. is_no_other k e n && (is_no_other c.last e n && is_no_other c.before e n)) none ∙ ap (λ b. b && (is_no_other c.last e n && is_no_other c.before e n)) (none_low e n)
      ∙ ap (λ k. is_no_other k e n && is_no_other c.before e n) (sym last) ∙ ap (λ k. is_no_other c'.last e n && is_no_other k e n) (sym before);
  within = subst (λ k. k ≤ events h) (sym last) (omega (arith, is.within, past_within h));
  order = subst (λ k. ((k ≡ 0) × (c'.before ≡ 0)) ⊎ (c'.before < k)) (sym last) (subst (λ k. ((c.last ≡ 0) × (k ≡ 0)) ⊎ (k < c.last)) (sym before) is.order);
}

shifted : (h : History) (c : Changes) (e n : ℕ) → AreChangesOf h c → (c.newest ≡ 0 → ⊥) → is_unchanged h e n ≡ (is_no_other c.newest e n && is_no_other c.last e n)
shifted h c e n is some = sym (calm h c e n is) ∙ at is.order
  where
    at : (((c.last ≡ 0) × (c.before ≡ 0)) ⊎ (c.before < c.last)) → (is_no_other c.newest e n && (is_no_other c.last e n && is_no_other c.before e n)) ≡ (is_no_other c.newest e n && is_no_other c.last e n)
    at (inl z) = ap (λ k. is_no_other c.newest e n && (is_no_other c.last e n && is_no_other k e n)) z.1 ∙ ap (λ b. is_no_other c.newest e n && b) (and_swap (is_no_other c.last e n) (is_no_other 0 e n) ∙ ap (λ b. b && is_no_other c.last e n) (none_low e n))
    at (inr less) = covered c.newest c.last c.before e n less (newer h c is some)

pub begins_behind : (h : History) (c c' : Changes) (x : Happening) (m : Time) → AreChangesOf h c → (c.newest ≡ 0 → ⊥) → c'.newest ≡ brought h (record { happening = x; moment = m; remarks = [] }) → c'.last ≡ c.newest → c'.before ≡ c.last
    → AreChangesOf (begun h x m) c'
begins_behind h c c' x m is some new last before = record {
  newest = new;
  past = λ e n. shifted h c e n is some ∙ ap (λ k. is_no_other k e n && is_no_other c.last e n) (sym last) ∙ ap (λ k. is_no_other c'.last e n && is_no_other k e n) (sym before);
  within = subst (λ k. k ≤ events h) (sym last) (subst (λ k. k ≤ events h) (sym is.newest) (change_within h));
  order = inr (subst (λ k. k < c'.last) (sym before) (subst (λ k. c.last < k) (sym last) (newer h c is some)));
}

-- ---- a note

drops_any_append : (k : ℕ) (rs : List Remark) (r : Remark) → drops_any k (rs ++ r ∷ []) ≡ (drops_any k rs || drops k r)
drops_any_append k [] r = or_none (drops k r)
  where
    or_none : (b : Bool) → (b || false) ≡ b
    or_none true = refl
    or_none false = refl
drops_any_append k (q ∷ rs) r = ap (λ b. drops k q || b) (drops_any_append k rs r) ∙ grouped (drops k q) (drops_any k rs) (drops k r)
  where
    grouped : (a b c : Bool) → (a || (b || c)) ≡ ((a || b) || c)
    grouped true b c = refl
    grouped false b c = refl

-- what is left of the newest turn's call
pub left : (k m : ℕ) → ℕ
left k m = if m == k then 0 else m

pub none_left : (k m : ℕ) → m ≡ k → 0 ≡ left k m
unfolding left
none_left k m e = sym (ap (λ b. if b then 0 else m) (eq-eqb m k e))

pub still_left : (k m : ℕ) → (m ≡ k → ⊥) → m ≡ left k m
unfolding left
still_left k m other = sym (ap (λ b. if b then 0 else m) (ne_eqb m k other))

same_either : (c : Bool) (n : ℕ) → (if c then n else n) ≡ n
same_either true n = refl
same_either false n = refl

away : (d b : Bool) (k event : ℕ) → (if (d || (k == event)) then 0 else if b then event else 0) ≡ left k (if d then 0 else if b then event else 0)
unfolding left
away true b k event = sym (same_either (0 == k) 0)
away false false k event = same_either (k == event) 0 ∙ sym (same_either (0 == k) 0)
away false true k event = ap (λ c. if c then 0 else event) (swapped k event)
  where
    swapped : (a b : ℕ) → (a == b) ≡ (b == a)
    swapped a b = grind (arith, nat_tests)

pub turned_away : (t : Turn) (past : History) (c c' : Changes) (k : ℕ) (r : Remark) → AreChangesOf (t ∷ past) c → IsDropOf k r → c'.newest ≡ left k c.newest → c'.last ≡ c.last → c'.before ≡ c.before
    → AreChangesOf (noted (t ∷ past) r) c'
turned_away t past c c' k r is drop new last before = record {
  newest = new ∙ ap (left k) is.newest ∙ sym (away (drops_any (events (t ∷ past)) t.remarks) (changes_by (asked_by t)) k (events (t ∷ past)))
      ∙ ap (λ b. if b then 0 else brought past t) (ap (λ b. drops_any (events (t ∷ past)) t.remarks || b) (sym (drop.drops_it (events (t ∷ past)))) ∙ sym (drops_any_append (events (t ∷ past)) t.remarks r));
  past = λ e n. is.past e n ∙ ap (λ k. is_no_other k e n && is_no_other c.before e n) (sym last) ∙ ap (λ k. is_no_other c'.last e n && is_no_other k e n) (sym before);
  within = subst (λ k. k ≤ events past) (sym last) is.within;
  order = subst (λ k. ((k ≡ 0) × (c'.before ≡ 0)) ⊎ (c'.before < k)) (sym last) (subst (λ k. ((c.last ≡ 0) × (k ≡ 0)) ⊎ (k < c.last)) (sym before) is.order);
}

pub stay : (t : Turn) (past : History) (c : Changes) (r : Remark) → AreChangesOf (t ∷ past) c → ((m : ℕ) → drops m r ≡ false) → AreChangesOf (noted (t ∷ past) r) c
stay t past c r is none = record {
  newest = is.newest ∙ ap (λ b. if b then 0 else brought past t) (sym (drops_any_append (events (t ∷ past)) t.remarks r ∙ ap (λ b. drops_any (events (t ∷ past)) t.remarks || b) (none (events (t ∷ past))) ∙ or_none (drops_any (events (t ∷ past)) t.remarks)));
  past = is.past;
  within = is.within;
  order = is.order;
}
  where
    or_none : (b : Bool) → (b || false) ≡ b
    or_none true = refl
    or_none false = refl
