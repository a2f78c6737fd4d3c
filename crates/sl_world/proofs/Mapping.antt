-- Maps whose values are seen otherwise.
use Rattle.std.proofs.Common.{◌≡◌, ℕ, suc, Bool, true, false, T, List, [], ◌∷◌, length, Option, Some, None, refl, sym, ap, subst, ◌∙◌, cond, option_map, ◌&&◌, arith}
use Rattle.std.specs.Prelude.{map as each}
use Rattle.std.proofs.lemmas.Map.Lookups.{exact_unsigned}
use Rattle.std.specs.Ordering.{nat_cmp, eq_by_cmp, is_lt}
use Rattle.std.specs.Cmp.{nat_cmp_total}
use Rattle.std.specs.FinMap.{FinMap, get, insert, remove, entries, entries_sorted, len, get-insert, get-remove, get-entries, len-entries, entries-from_sorted, entries-insert, same_map, gets}
use Rattle.std.specs.FinMap.Entries.{find, put, by_order, is_sorted, below_all}
use Rattle.std.specs.declared.cmp.Ordering.TheVariants.{Less, Equal, Greater}
use Rattle.sl_world.specs.Proxying.{mapped}

module _ {X Y : Type 0} (g : X → Y) where
  -- an entry with its value seen so
  abbrev pub so : ℕ × X → ℕ × Y
  so e = (e.0, g e.1)

  below_so : (k : ℕ) (es : List (ℕ × X)) → below_all nat_cmp k (each so es) ≡ below_all nat_cmp k es
  below_so k [] = refl
  below_so k (e ∷ es) = ap (λ b. is_lt (nat_cmp k e.0) && b) (below_so k es)

  sorted_so : (es : List (ℕ × X)) → is_sorted nat_cmp (each so es) ≡ is_sorted nat_cmp es
  sorted_so [] = refl
  sorted_so (e ∷ es) = ap (λ b. b && is_sorted nat_cmp (each so es)) (below_so e.0 es) ∙ ap (λ b. below_all nat_cmp e.0 es && b) (sorted_so es)

  pub entries_so : (m : FinMap nat_cmp X) → entries (mapped g m) ≡ each so (entries m)
  entries_so m = entries-from_sorted nat_cmp (each so (entries m)) (subst T (sym (sorted_so (entries m))) (entries_sorted m))

  find_so : (q : ℕ) (es : List (ℕ × X)) → find nat_cmp q (each so es) ≡ option_map g (find nat_cmp q es)
  find_so q [] = refl
  find_so q (e ∷ es) = elim (eq_by_cmp nat_cmp q e.0) as (λ b. cond b (Some (g e.1)) (find nat_cmp q (each so es)) ≡ option_map g (cond b (Some e.1) (find nat_cmp q es))) [
    | true ↦ refl
    | false ↦ find_so q es
  ]

  pub get_so : (m : FinMap nat_cmp X) (q : ℕ) → get (mapped g m) q ≡ option_map g (get m q)
  get_so m q = get-entries (mapped g m) q ∙ ap (find nat_cmp q) (entries_so m) ∙ find_so q (entries m) ∙ sym (ap (option_map g) (get-entries m q))

  pub insert_so : (m : FinMap nat_cmp X) (k : ℕ) (x : X) → mapped g (insert m k x) ≡ insert (mapped g m) k (g x)
  insert_so m k x = same_map nat_cmp_total exact_unsigned _ _ (λ q.
      get_so (insert m k x) q ∙ ap (option_map g) (get-insert nat_cmp_total m k x q) ∙ at (eq_by_cmp nat_cmp q k) (get m q)
      ∙ ap (cond (eq_by_cmp nat_cmp q k) (Some (g x))) (sym (get_so m q)) ∙ sym (get-insert nat_cmp_total (mapped g m) k (g x) q))
    where
      at : (b : Bool) (o : Option X) → option_map g (cond b (Some x) o) ≡ cond b (Some (g x)) (option_map g o)
      at true o = refl
      at false o = refl

  pub remove_so : (m : FinMap nat_cmp X) (k : ℕ) → mapped g (remove m k) ≡ remove (mapped g m) k
  remove_so m k = same_map nat_cmp_total exact_unsigned _ _ (λ q.
      get_so (remove m k) q ∙ ap (option_map g) (get-remove nat_cmp_total m k q) ∙ at (eq_by_cmp nat_cmp q k) (get m q)
      ∙ ap (cond (eq_by_cmp nat_cmp q k) None) (sym (get_so m q)) ∙ sym (get-remove nat_cmp_total (mapped g m) k q))
    where
      at : (b : Bool) (o : Option X) → option_map g (cond b None o) ≡ cond b None (option_map g o)
      at true o = refl
      at false o = refl

  pub len_so : (m : FinMap nat_cmp X) → len (mapped g m) ≡ len m
  len_so m = len-entries (mapped g m) ∙ ap length (entries_so m) ∙ length_so (entries m) ∙ sym (len-entries m)
    where
      length_so : (es : List (ℕ × X)) → length (each so es) ≡ length es
      length_so [] = refl
      length_so (e ∷ es) = ap (λ n. suc n) (length_so es)

-- ---- one key, more than once

pub put_again : {X : Type 0} (m : FinMap nat_cmp X) (k : ℕ) (x y : X) → insert (insert m k x) k y ≡ insert m k y
put_again {X = X} m k x y = same_map nat_cmp_total exact_unsigned _ _ (λ q.
    get-insert nat_cmp_total (insert m k x) k y q ∙ ap (cond (eq_by_cmp nat_cmp q k) (Some y)) (get-insert nat_cmp_total m k x q) ∙ at (eq_by_cmp nat_cmp q k) (get m q)
    ∙ sym (get-insert nat_cmp_total m k y q))
  where
    at : (b : Bool) (o : Option X) → cond b (Some y) (cond b (Some x) o) ≡ cond b (Some y) o
    at true o = refl
    at false o = refl

pub take_put : {X : Type 0} (m : FinMap nat_cmp X) (k : ℕ) (x : X) → remove (insert m k x) k ≡ remove m k
take_put {X = X} m k x = same_map nat_cmp_total exact_unsigned _ _ (λ q.
    get-remove nat_cmp_total (insert m k x) k q ∙ ap (cond (eq_by_cmp nat_cmp q k) None) (get-insert nat_cmp_total m k x q) ∙ at (eq_by_cmp nat_cmp q k) (get m q)
    ∙ sym (get-remove nat_cmp_total m k q))
  where
    at : (b : Bool) (o : Option X) → cond b None (cond b (Some x) o) ≡ cond b None o
    at true o = refl
    at false o = refl

same_key : (q k : ℕ) → eq_by_cmp nat_cmp q k ≡ true → q ≡ k
same_key q k e = grind arith

-- what isn't there can't be taken
pub take_none : {X : Type 0} (m : FinMap nat_cmp X) (k : ℕ) → get m k ≡ None → remove m k ≡ m
take_none m k none = same_map nat_cmp_total exact_unsigned _ _ (λ q. get-remove nat_cmp_total m k q ∙ at q)
  where
    at : (q : ℕ) → cond (eq_by_cmp nat_cmp q k) None (get m q) ≡ get m q
    at q = elim (eq_by_cmp nat_cmp q k) as (λ b. eq_by_cmp nat_cmp q k ≡ b → cond b None (get m q) ≡ get m q) [
      | true ↦ λ t. sym (ap (get m) (same_key q k t) ∙ none)
      | false ↦ λ t. refl
    ] refl

pub has_put : {X : Type 0} (m : FinMap nat_cmp X) (k : ℕ) (x : X) → get (insert m k x) k ≡ Some x
has_put m k x = grind (arith, gets)

-- ---- all values of a map

abbrev pub All : {X : Type 0} → (X → Type 0) → List (ℕ × X) → Type 0
All P [] = Unit {0}
All P (e ∷ es) = P e.1 × All P es

put_all : {X : Type 0} (P : X → Type 0) (k : ℕ) (x : X) (es : List (ℕ × X)) → P x → All P es → All P (put nat_cmp k x es)
put_all P k x [] px all = (px, tt)
put_all P k x (e ∷ es) px all = elim (nat_cmp k e.0) as (λ r. All P (by_order r ((k, x) ∷ e ∷ es) ((e.0, x) ∷ es) (e ∷ put nat_cmp k x es))) [
  | Less ↦ (px, all)
  | Equal ↦ (px, all.1)
  | Greater ↦ (all.0, put_all P k x es px all.1)
]

pub all_put : {X : Type 0} (P : X → Type 0) (m : FinMap nat_cmp X) (k : ℕ) (x : X) → P x → All P (entries m) → All P (entries (insert m k x))
all_put P m k x px all = subst (All P) (sym (entries-insert nat_cmp_total m k x)) (put_all P k x (entries m) px all)

all_each : {X Y : Type 0} (g : X → Y) (P : Y → Type 0) (es : List (ℕ × X)) → ((x : X) → P (g x)) → All P (each (so g) es)
all_each g P [] each_one = tt
all_each g P (e ∷ es) each_one = (each_one e.1, all_each g P es each_one)

pub all_so : {X Y : Type 0} (g : X → Y) (P : Y → Type 0) (m : FinMap nat_cmp X) → ((x : X) → P (g x)) → All P (entries (mapped g m))
all_so g P m each_one = subst (All P) (sym (entries_so g m)) (all_each g P (entries m) each_one)
