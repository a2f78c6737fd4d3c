-- The actors of a volume, and which are up after its opening.
use Rattle.std.proofs.Common.{◌≡◌, ℕ, zero, suc, ◌+◌, ◌==◌, ◌++◌, ◌&&◌, ◌||◌, Bool, true, false, not, List, [], ◌∷◌, map, Option, Some, None, refl, sym, ap, subst, ◌∙◌, T, arith}
use Rattle.std.specs.Prelude.{nat_le, nat_lt}
use Rattle.std.specs.List.{list_any}
use Rattle.std.proofs.lemmas.Bool.Decides.{nat_tests}
use Rattle.std.specs.declared.cmp.Ordering.{Ordering}
use Rattle.std.specs.declared.cmp.Ordering.TheVariants.{Less, Equal, Greater}
use Rattle.std.specs.Ordering.{nat_cmp, eq_by_cmp, is_lt, is_eq}
use Rattle.std.specs.FinMap.{get, entries, entries_sorted}
use Rattle.std.specs.FinMap.Entries.{is_sorted, below_all}
use Rattle.sl_defs.specs.declared.setup.Setup.{Setup}
use Rattle.sl_history.specs.Frames.{is_among, has_actor, notes_down}
use Rattle.sl_machine.specs.Memory.{Actor}
use Rattle.sl_machine.specs.Parts.{numbers}
use Rattle.sl_machine.specs.World.{World, Told, nothing}
use Rattle.sl_machine.specs.Runs.{is_up, has_memory, StartsEach, IsInitial, actors_of}
use Rattle.sl_transport.proofs.Stepping.{same_key}
use Rattle.sl_transport.proofs.Ups.{IsApart, AreUp, starts_go}

abbrev pub Has : List ℕ → ℕ → Bool
Has is j = list_any (eq_by_cmp nat_cmp j) is

-- ---- each number stands once

abbrev pub AreDistinct : List ℕ → Type 0
AreDistinct [] = Unit {0}
AreDistinct (i ∷ is) = (Has is i ≡ false) × AreDistinct is

first_of_both : (a b : Bool) → T (a && b) → T a
first_of_both true b h = tt
first_of_both false b h = h

second_of_both : (a b : Bool) → T (a && b) → T b
second_of_both true b h = h
second_of_both false b h = absurd h

less_apart : (r : Ordering) → T (is_lt r) → is_eq r ≡ false
less_apart Less h = refl
less_apart Equal h = absurd h
less_apart Greater h = refl

not_below : {X : Type 0} (i : ℕ) (es : List (ℕ × X)) → T (below_all nat_cmp i es) → Has (map (λ e. e.0) es) i ≡ false
not_below i [] h = refl
not_below i (e ∷ es) h =
    ap (λ b. b || Has (map (λ e. e.0) es) i) (less_apart (nat_cmp i e.0) (first_of_both (is_lt (nat_cmp i e.0)) (below_all nat_cmp i es) h))
    ∙ not_below i es (second_of_both (is_lt (nat_cmp i e.0)) (below_all nat_cmp i es) h)

pub distinct_keys : {X : Type 0} (es : List (ℕ × X)) → T (is_sorted nat_cmp es) → AreDistinct (map (λ e. e.0) es)
distinct_keys [] h = tt
distinct_keys (e ∷ es) h = (
  not_below e.0 es (first_of_both (below_all nat_cmp e.0 es) (is_sorted nat_cmp es) h),
  distinct_keys es (second_of_both (below_all nat_cmp e.0 es) (is_sorted nat_cmp es) h),
)

-- ---- the volume's actors

has_both : (is js : List ℕ) (j : ℕ) → Has (is ++ js) j ≡ Has is j || Has js j
has_both [] js j = refl
has_both (i ∷ is) js j = ap (λ b. eq_by_cmp nat_cmp j i || b) (has_both is js j) ∙ or_all (eq_by_cmp nat_cmp j i) (Has is j) (Has js j)
  where
    or_all : (a b c : Bool) → a || (b || c) ≡ (a || b) || c
    or_all true b c = refl
    or_all false b c = refl

none_yet : (first j : ℕ) → false ≡ nat_le first j && nat_lt j (first + 0)
none_yet first j = grind (arith, nat_tests)

first_or_later : (first n j : ℕ) → (eq_by_cmp nat_cmp j first || (nat_le (first + 1) j && nat_lt j (first + 1 + n))) ≡ nat_le first j && nat_lt j (first + suc n)
first_or_later first n j = grind (arith, nat_tests)

has_numbers : (first n j : ℕ) → Has (numbers first n) j ≡ is_among first n j
has_numbers first zero j = none_yet first j
has_numbers first (suc n) j = ap (λ b. eq_by_cmp nat_cmp j first || b) (has_numbers (first + 1) n j) ∙ first_or_later first n j

test_of : (j i : ℕ) → eq_by_cmp nat_cmp j i ≡ (j == i)
test_of j i = grind (arith, nat_tests)

has_actors : (s : Setup) (j : ℕ) → Has (actors_of s) j ≡ has_actor s j
has_actors s j =
    ap (λ b. b || (eq_by_cmp nat_cmp j 1 || Has (dirs ++ (small ++ nodes)) j)) (test_of j 0)
    ∙ ap (λ b. j == 0 || (b || Has (dirs ++ (small ++ nodes)) j)) (test_of j 1)
    ∙ ap (λ b. j == 0 || (j == 1 || b)) (has_both dirs (small ++ nodes) j ∙ ap (λ b. b || Has (small ++ nodes) j) (has_numbers 16 s.dirs j)
    ∙ ap (λ b. is_among 16 s.dirs j || b) (has_both small nodes j ∙ ap (λ b. b || Has nodes j) (has_numbers 32 s.small j) ∙ ap (λ b. is_among 32 s.small j || b) (has_numbers 48 s.nodes j)))
  where
    dirs : List ℕ
    dirs = numbers 16 s.dirs

    small : List ℕ
    small = numbers 32 s.small

    nodes : List ℕ
    nodes = numbers 48 s.nodes

-- ---- they start, one after the other

-- those that are to be up, but for these
abbrev Without : (ℕ → Bool) → List ℕ → ℕ → Bool
Without was is j = was j && not (Has is j)

and_true : (b : Bool) → b && true ≡ b
and_true true = refl
and_true false = refl

or_true : (b : Bool) → b || true ≡ true
or_true true = refl
or_true false = refl

true_false : true ≡ false → ⊥
true_false e = cc

itself : (i : ℕ) → eq_by_cmp nat_cmp i i ≡ true
itself i = grind (arith, nat_tests)

-- what is among distinct numbers is apart from the one before them
apart_from : (i : ℕ) (is : List ℕ) (j : ℕ) → Has is i ≡ false → Has is j ≡ true → IsApart j i
apart_from i is j none has = by (eq_by_cmp nat_cmp j i) refl
  where
    by : (b : Bool) → eq_by_cmp nat_cmp j i ≡ b → b ≡ false
    by true e = absurd (true_false (sym has ∙ ap (Has is) (same_key j i e) ∙ none))
    by false e = refl

all_start : (is : List ℕ) (was : ℕ → Bool) (w : World) (n : Told) (w' : World) (n' : Told) → AreDistinct is → ((j : ℕ) → Has is j ≡ true → was j ≡ true)
    → ((j : ℕ) → Has is j ≡ true → notes_down j n.notes ≡ false) → AreUp (Without was is) w n → StartsEach is w n w' n' → AreUp was w' n'
all_start [] was w n w' n' distinct due clean p starts =
    subst (λ z. AreUp was z n') (sym starts.0) (subst (λ z. AreUp was w z) (sym starts.1) (λ j. p j ∙ ap (λ b. b && not (notes_down j n.notes)) (and_true (was j))))
all_start (i ∷ is) was w n w' n' distinct due clean p starts =
    let first = starts_go i (Without was is) n w n starts.0 starts.1 (record {
      others = λ j apart. p j ∙ ap (λ b. (was j && not (b || Has is j)) && not (notes_down j n.notes)) apart;
      clean = clean i (ap (λ b. b || Has is i) (itself i));
      due = ap (λ b. b && not (Has is i)) (due i (ap (λ b. b || Has is i) (itself i))) ∙ ap not distinct.0;
      noted = λ j apart. refl;
    }) starts.2 in
    all_start is was starts.0 starts.1 w' n' distinct.1
    (λ j has. due j (ap (λ b. eq_by_cmp nat_cmp j i || b) has ∙ or_true (eq_by_cmp nat_cmp j i)))
    (λ j has. first.noted j (apart_from i is j distinct.0 has) ∙ clean j (ap (λ b. eq_by_cmp nat_cmp j i || b) has ∙ or_true (eq_by_cmp nat_cmp j i)))
    first.ups starts.3

-- ---- an opening

pub down_at_first : (setup : Setup) (w : World) → IsInitial setup w → (j : ℕ) → is_up (get w.actors j) ≡ false
down_at_first setup w is j = by (get w.actors j) refl
  where
    by : (o : Option Actor) → get w.actors j ≡ o → is_up o ≡ false
    by None e = refl
    by (Some a) e = ap has_memory (is.actors j a e).0

and_not : (b : Bool) → false ≡ (b && not b) && true
and_not true = refl
and_not false = refl

pub opening_goes : (setup : Setup) (w : World) (w' : World) (n' : Told) → IsInitial setup w → StartsEach (actors_of setup) w nothing w' n' → AreUp (has_actor setup) w' n'
opening_goes setup w w' n' is starts =
    all_start (actors_of setup) (has_actor setup) w nothing w' n' (subst AreDistinct is.all (distinct_keys (entries w.actors) (entries_sorted w.actors)))
    (λ j has. sym (has_actors setup j) ∙ has) (λ j has. refl)
    (λ j. down_at_first setup w is j ∙ and_not (has_actor setup j) ∙ ap (λ b. (has_actor setup j && not b) && true) (sym (has_actors setup j))) starts
