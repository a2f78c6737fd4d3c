-- The keys of a map, in their order.
use Rattle.std.proofs.Common.{◌≡◌, ℕ, suc, ◌<◌, ◌==◌, Bool, true, false, not, List, [], ◌∷◌, ◌++◌, filter, map, length, Option, Some, None, refl, sym, ap, ◌∙◌, cond, arith}
use Rattle.std.proofs.lemmas.Map.Lookups.{exact_unsigned}
use Rattle.std.specs.declared.cmp.Ordering.TheVariants.{Equal, Greater}
use Rattle.std.specs.Ordering.{nat_cmp, eq_by_cmp}
use Rattle.std.specs.Cmp.{nat_cmp_total}
use Rattle.std.specs.FinMap.{FinMap, empty, get-empty, len-empty, get, insert, remove, entries, entries_sorted, keys, len, from_sorted, get-remove, get-entries, get-from_sorted, len-entries, entries-from_sorted, entries-insert, same_map}
use Rattle.std.specs.FinMap.Entries.{put, by_order, where_key, is_sorted-where_key, find-where_key}
use Rattle.sl_transport.proofs.Stepping.{same_key}
use Rattle.sl_getattr.proofs.Maps.{All, all_there}

-- ---- a key above all others comes last

is_greater : (k n : ℕ) → k < n → nat_cmp n k ≡ Greater
is_greater k n less = grind arith

put_last : {X : Type 0} (n : ℕ) (x : X) (es : List (ℕ × X)) → All (λ k y. k < n) es → map (λ e. e.0) (put nat_cmp n x es) ≡ map (λ e. e.0) es ++ n ∷ []
put_last n x [] all = refl
put_last {X} n x (e ∷ es) all =
    ap (λ r. map (λ (e : ℕ × X). e.0) (by_order r ((n, x) ∷ e ∷ es) ((e.0, x) ∷ es) (e ∷ put nat_cmp n x es))) (is_greater e.0 n all.0)
    ∙ ap (λ ks. e.0 ∷ ks) (put_last n x es all.1)

pub keys_put : {X : Type 0} (m : FinMap nat_cmp X) (n : ℕ) (x : X) → ((k : ℕ) (y : X) → get m k ≡ Some y → k < n) → keys (insert m n x) ≡ keys m ++ n ∷ []
keys_put {X} m n x all = ap (λ (es : List (ℕ × X)). map (λ e. e.0) es) (entries-insert nat_cmp_total m n x) ∙ put_last n x (entries m) (all_there (λ k y. k < n) m all)

-- ---- a key goes

other : ℕ → ℕ → Bool
other k q = not (q == k)

alike : (k q x : ℕ) → nat_cmp q x ≡ Equal → other k x ≡ other k q
alike k q x e = ap (other k) (sym (exact_unsigned q x e))

tests : (k q : ℕ) → eq_by_cmp nat_cmp q k ≡ (q == k)
tests k q = grind arith

turned : {X : Type 0} (b : Bool) (o : Option X) → cond b None o ≡ cond (not b) o None
turned true o = refl
turned false o = refl

without : {X : Type 0} (m : FinMap nat_cmp X) (k : ℕ) → remove m k ≡ from_sorted (where_key nat_cmp (other k) (entries m))
unfolding other
without m k = same_map nat_cmp_total exact_unsigned _ _ (λ q.
    get-remove nat_cmp_total m k q ∙ ap (λ b. cond b None (get m q)) (tests k q) ∙ turned (q == k) (get m q) ∙ ap (λ o. cond (not (q == k)) o None) (get-entries m q)
    ∙ sym (find-where_key nat_cmp (other k) q (alike k q) (entries m))
    ∙ sym (get-from_sorted nat_cmp (where_key nat_cmp (other k) (entries m)) q (is_sorted-where_key nat_cmp (other k) (entries m) (entries_sorted m))))

key_where : {X : Type 0} (p : ℕ → Bool) (e : ℕ × X) (es : List (ℕ × X)) (b : Bool) → map (λ e. e.0) (where_key nat_cmp p es) ≡ filter p (map (λ e. e.0) es)
    → map (λ e. e.0) (cond b (e ∷ where_key nat_cmp p es) (where_key nat_cmp p es)) ≡ cond b (e.0 ∷ filter p (map (λ e. e.0) es)) (filter p (map (λ e. e.0) es))
key_where p e es true same = ap (λ ks. e.0 ∷ ks) same
key_where p e es false same = same

keys_where : {X : Type 0} (p : ℕ → Bool) (es : List (ℕ × X)) → map (λ e. e.0) (where_key nat_cmp p es) ≡ filter p (map (λ e. e.0) es)
keys_where p [] = refl
keys_where {X} p (e ∷ es) = key_where p e es (p e.0) (keys_where p es)

pub keys_removed : {X : Type 0} (m : FinMap nat_cmp X) (k : ℕ) → keys (remove m k) ≡ filter (λ q. not (q == k)) (keys m)
unfolding other
keys_removed {X} m k =
    ap (λ (z : FinMap nat_cmp X). map (λ e. e.0) (entries z)) (without m k)
    ∙ ap (λ (es : List (ℕ × X)). map (λ e. e.0) es) (entries-from_sorted nat_cmp (where_key nat_cmp (other k) (entries m)) (is_sorted-where_key nat_cmp (other k) (entries m) (entries_sorted m)))
    ∙ keys_where (other k) (entries m)

-- ---- how many

length_keys : {X : Type 0} (es : List (ℕ × X)) → length (map (λ e. e.0) es) ≡ length es
length_keys [] = refl
length_keys (e ∷ es) = ap (λ n. suc n) (length_keys es)

pub many_keys : {X : Type 0} (m : FinMap nat_cmp X) → length (keys m) ≡ len m
many_keys m = length_keys (entries m) ∙ sym (len-entries m)

-- of nothing nothing is left
none_twice : {X : Type 0} (b : Bool) (o : Option X) → o ≡ None → cond b None o ≡ None
none_twice true o e = refl
none_twice false o e = e

pub none_without : {X : Type 0} (k : ℕ) → remove (empty {X = X} {R = nat_cmp}) k ≡ empty
none_without k = same_map nat_cmp_total exact_unsigned _ _ (λ q. get-remove nat_cmp_total empty k q ∙ none_twice (eq_by_cmp nat_cmp q k) (get empty q) (get-empty nat_cmp q) ∙ sym (get-empty nat_cmp q))

no_length : (ns : List ℕ) → length ns ≡ 0 → ns ≡ []
no_length [] none = refl
no_length (n ∷ ns) none = absurd (omega arith)

pub no_keys : (X : Type 0) → keys (empty {X = X} {R = nat_cmp}) ≡ []
no_keys X = no_length (keys (empty {X = X} {R = nat_cmp})) (many_keys empty ∙ len-empty nat_cmp X)

-- what isn't there can't be taken away
pub unknown_key : {X : Type 0} (m : FinMap nat_cmp X) (k : ℕ) → ((x : X) → get m k ≡ Some x → ⊥) → remove m k ≡ m
unknown_key {X} m k none = same_map nat_cmp_total exact_unsigned _ _ (λ q. get-remove nat_cmp_total m k q ∙ by q (eq_by_cmp nat_cmp q k) refl)
  where
    not_there : (o : Option X) → get m k ≡ o → o ≡ None
    not_there None is = refl
    not_there (Some x) is = absurd (none x is)

    by : (q : ℕ) (b : Bool) → eq_by_cmp nat_cmp q k ≡ b → cond b None (get m q) ≡ get m q
    by q true e = sym (ap (get m) (same_key q k e) ∙ not_there (get m k) refl)
    by q false e = refl
