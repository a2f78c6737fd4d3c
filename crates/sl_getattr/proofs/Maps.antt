-- Maps by numbers.
use Rattle.std.proofs.Common.{◌≡◌, ℕ, Bool, true, false, T, List, [], ◌∷◌, Option, Some, None, refl, sym, ap, ◌∙◌, cond, ◌&&◌, arith}
use Rattle.std.proofs.lemmas.Map.Lookups.{exact_unsigned}
use Rattle.std.specs.declared.cmp.Ordering.{Ordering}
use Rattle.std.specs.declared.cmp.Ordering.TheVariants.{Less, Equal, Greater}
use Rattle.std.specs.Ordering.{nat_cmp, eq_by_cmp, is_lt, is_eq}
use Rattle.std.specs.Cmp.{nat_cmp_total}
use Rattle.std.specs.FinMap.{FinMap, empty, get, insert, remove, entries, entries_sorted, get-insert, get-remove, get-entries, get-empty, same_map, gets}
use Rattle.std.specs.FinMap.Entries.{find, is_sorted, below_all}
use Rattle.sl_transport.proofs.Stepping.{same_key}
use Rattle.sl_getattr.proofs.Stepping.{not_none}

-- ---- one key

pub put_again : {X : Type 0} (m : FinMap nat_cmp X) (k : ℕ) (x y : X) → insert (insert m k x) k y ≡ insert m k y
put_again {X = X} m k x y = same_map nat_cmp_total exact_unsigned _ _ (λ q.
    get-insert nat_cmp_total (insert m k x) k y q ∙ ap (cond (eq_by_cmp nat_cmp q k) (Some y)) (get-insert nat_cmp_total m k x q) ∙ at (eq_by_cmp nat_cmp q k) (get m q)
    ∙ sym (get-insert nat_cmp_total m k y q))
  where
    at : (b : Bool) (o : Option X) → cond b (Some y) (cond b (Some x) o) ≡ cond b (Some y) o
    at true o = refl
    at false o = refl

pub take_put : {X : Type 0} (m : FinMap nat_cmp X) (k : ℕ) (x : X) → remove (insert m k x) k ≡ remove m k
take_put {X = X} m k x = same_map nat_cmp_total exact_unsigned _ _ (λ q.
    get-remove nat_cmp_total (insert m k x) k q ∙ ap (cond (eq_by_cmp nat_cmp q k) None) (get-insert nat_cmp_total m k x q) ∙ at (eq_by_cmp nat_cmp q k) (get m q)
    ∙ sym (get-remove nat_cmp_total m k q))
  where
    at : (b : Bool) (o : Option X) → cond b None (cond b (Some x) o) ≡ cond b None o
    at true o = refl
    at false o = refl

pub has_put : {X : Type 0} (m : FinMap nat_cmp X) (k : ℕ) (x : X) → get (insert m k x) k ≡ Some x
has_put m k x = grind (arith, gets)

itself : (k : ℕ) → eq_by_cmp nat_cmp k k ≡ true
itself k = grind arith

-- ---- what is there after a change

pub data Put {X : Type 0} (m : FinMap nat_cmp X) (k : ℕ) (x : X) (q : ℕ) (y : X) : Type 0 where
  IsNew : q ≡ k → y ≡ x → Put m k x q y
  WasThere : eq_by_cmp nat_cmp q k ≡ false → get m q ≡ Some y → Put m k x q y

some_or : {X : Type 0} → X → Option X → X
some_or x None = x
some_or x (Some y) = y

pub of_put : {X : Type 0} (m : FinMap nat_cmp X) (k : ℕ) (x : X) (q : ℕ) (y : X) → get (insert m k x) q ≡ Some y → Put m k x q y
unfolding some_or
of_put m k x q y is = by (eq_by_cmp nat_cmp q k) refl (sym (get-insert nat_cmp_total m k x q) ∙ is)
  where
    by : (b : Bool) → eq_by_cmp nat_cmp q k ≡ b → cond b (Some x) (get m q) ≡ Some y → Put m k x q y
    by true e found = IsNew (same_key q k e) (sym (ap (some_or x) found))
    by false e found = WasThere e found

-- what is there without a key was there, at another
pub record Left {X : Type 0} (m : FinMap nat_cmp X) (k q : ℕ) (y : X) : Type 0 where
  pub other : eq_by_cmp nat_cmp q k ≡ false
  pub there : get m q ≡ Some y

pub of_removal : {X : Type 0} (m : FinMap nat_cmp X) (k q : ℕ) (y : X) → get (remove m k) q ≡ Some y → Left m k q y
of_removal m k q y is = by (eq_by_cmp nat_cmp q k) refl (sym (get-remove nat_cmp_total m k q) ∙ is)
  where
    by : (b : Bool) → eq_by_cmp nat_cmp q k ≡ b → cond b None (get m q) ≡ Some y → Left m k q y
    by true e found = absurd (not_none (sym found))
    by false e found = record { other = e; there = found }

pub none_in : {X : Type 0} (q : ℕ) (y : X) → get (empty {X = X} {R = nat_cmp}) q ≡ Some y → ⊥
none_in q y is = not_none (sym is ∙ get-empty nat_cmp q)

-- ---- all that is there

abbrev pub All : {X : Type 0} → (ℕ → X → Type 0) → List (ℕ × X) → Type 0
All P [] = Unit {0}
All P (e ∷ es) = P e.0 e.1 × All P es

first_of_both : (a b : Bool) → T (a && b) → T a
first_of_both true b h = tt
first_of_both false b h = h

second_of_both : (a b : Bool) → T (a && b) → T b
second_of_both true b h = h
second_of_both false b h = absurd h

less_apart : (r : Ordering) → T (is_lt r) → is_eq r ≡ false
less_apart Less h = refl
less_apart Equal h = absurd h
less_apart Greater h = refl

not_below : {X : Type 0} (i : ℕ) (es : List (ℕ × X)) → T (below_all nat_cmp i es) → find nat_cmp i es ≡ None
not_below i [] h = refl
not_below i (e ∷ es) h =
    ap (λ b. cond b (Some e.1) (find nat_cmp i es)) (less_apart (nat_cmp i e.0) (first_of_both (is_lt (nat_cmp i e.0)) (below_all nat_cmp i es) h))
    ∙ not_below i es (second_of_both (is_lt (nat_cmp i e.0)) (below_all nat_cmp i es) h)

all_found : {X : Type 0} (P : ℕ → X → Type 0) (es : List (ℕ × X)) → T (is_sorted nat_cmp es) → ((k : ℕ) (x : X) → find nat_cmp k es ≡ Some x → P k x) → All P es
all_found P [] sorted each = tt
all_found {X = X} P (e ∷ es) sorted each = (
  each e.0 e.1 (ap (λ b. cond b (Some e.1) (find nat_cmp e.0 es)) (itself e.0)),
  all_found P es (second_of_both (below_all nat_cmp e.0 es) (is_sorted nat_cmp es) sorted) (λ k x found. each k x (later k x found (eq_by_cmp nat_cmp k e.0) refl)),
)
  where
    later : (k : ℕ) (x : X) → find nat_cmp k es ≡ Some x → (b : Bool) → eq_by_cmp nat_cmp k e.0 ≡ b → cond (eq_by_cmp nat_cmp k e.0) (Some e.1) (find nat_cmp k es) ≡ Some x
    later k x found true same =
        absurd (not_none (sym found ∙ ap (λ i. find nat_cmp i es) (same_key k e.0 same) ∙ not_below e.0 es (first_of_both (below_all nat_cmp e.0 es) (is_sorted nat_cmp es) sorted)))
    later k x found false same = ap (λ b. cond b (Some e.1) (find nat_cmp k es)) same ∙ found

pub all_there : {X : Type 0} (P : ℕ → X → Type 0) (m : FinMap nat_cmp X) → ((k : ℕ) (x : X) → get m k ≡ Some x → P k x) → All P (entries m)
all_there P m each = all_found P (entries m) (entries_sorted m) (λ k x found. each k x (get-entries m k ∙ found))
