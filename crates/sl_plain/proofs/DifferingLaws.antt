-- The keys of some of a map's entries, gathered entry by entry; and maps that are equal.
use Rattle.std.proofs.Common.{◌≡◌, ◌≢◌, ◌⊎◌, ◌↔◌, List, [], ◌∷◌, ◌++◌, Option, Some, None, Bool, true, false, cond, inl, inr, refl, sym, ap, subst, ◌∙◌, arith}
use Rattle.std.specs.Prelude.{map, ℕ}
use Rattle.std.specs.Bool.{Decides}
use Rattle.std.specs.List.{Contains}
use Rattle.std.specs.List.Sorted.{IsStrictlySortedBy}
use Rattle.std.specs.Map.{keys_of}
use Rattle.std.specs.declared.cmp.Ordering.{Ordering}
use Rattle.std.specs.declared.cmp.Ordering.TheVariants.{Less, Equal, Greater}
use Rattle.std.specs.Cmp.{IsTotalOrder}
use Rattle.std.specs.Ordering.{eq_by_cmp, is_eq}
use Rattle.std.proofs.lemmas.Cmp.{eq_by_cmp_equiv}
use Rattle.std.proofs.lemmas.List.Elements.{Contains-append_left, Contains-push, Contains-push_cases}
use Rattle.std.proofs.lemmas.List.{map_push}
use Rattle.std.proofs.lemmas.Option.{same_Some}
use Rattle.std.proofs.lemmas.Map.Lookups.{CmpEqualImpliesEq}
use Rattle.std.specs.FinMap.{FinMap, get, entries, from_entries, get-from_entries, same_map}
use Rattle.std.specs.FinMap.Entries.{find}
use Rattle.sl_plain.specs.declared.names.Place.{Place}
use Rattle.sl_plain.specs.Maps.{key_of}
use Rattle.sl_plain.specs.Differing.{HasEntry, Gathers, IsUnlike, IsOther, IsWithin}
use Rattle.sl_model.specs.Volume.{place_cmp}
use Rattle.std.specs.Option.{unwrap_or}
use Rattle.sl_plain.proofs.CopyLaws.{none_below, entries_of}

-- one of the entries is such a one, at the key
pub Among : {K X : Type 0} → (K × X → Type 0) → List (K × X) → K → Type 0
Among Is [] q = ⊥
Among Is (e ∷ es) q = ((e.0 ≡ q) × Is e) ⊎ Among Is es q

-- with those that are left, the keys are the old ones and all
pub Gathering : {K X : Type 0} → (K × X → Type 0) → List (K × X) → List K → List (K × X) → List K → Type 0
Gathering {K} Is all old es new = (q : K) → (Contains new q ⊎ Among Is es q) ↔ (Contains old q ⊎ Among Is all q)

pub none_gathered : {K X : Type 0} (Is : K × X → Type 0) (all : List (K × X)) (old : List K) → Gathering Is all old all old
unfolding Gathering
none_gathered Is all old q = (λ h. h, λ h. h)

pub one_gathered : {K X : Type 0} (Is : K × X → Type 0) (all es : List (K × X)) (old new : List K) (e : K × X) → Gathering Is all old (e ∷ es) new → Is e → Gathering Is all old es (new ++ e.0 ∷ [])
unfolding Gathering Among
one_gathered {K} Is all es old new e g is q = (λ h. (g q).0 (before h), λ h. after ((g q).1 h))
  where
    before : (Contains (new ++ e.0 ∷ []) q ⊎ Among Is es q) → Contains new q ⊎ (((e.0 ≡ q) × Is e) ⊎ Among Is es q)
    before (inr a) = inr (inr a)
    before (inl c) = elim (Contains-push_cases new e.0 q c) as (λ _. Contains new q ⊎ (((e.0 ≡ q) × Is e) ⊎ Among Is es q)) [
      | inl c ↦ inl c
      | inr s ↦ inr (inl (s, is))
    ]

    after : (Contains new q ⊎ (((e.0 ≡ q) × Is e) ⊎ Among Is es q)) → Contains (new ++ e.0 ∷ []) q ⊎ Among Is es q
    after (inl c) = inl (Contains-append_left new (e.0 ∷ []) q c)
    after (inr (inl s)) = inl (subst (Contains (new ++ e.0 ∷ [])) s.0 (Contains-push new e.0))
    after (inr (inr a)) = inr a

pub one_passed : {K X : Type 0} (Is : K × X → Type 0) (all es : List (K × X)) (old new : List K) (e : K × X) → Gathering Is all old (e ∷ es) new → (Is e → ⊥) → Gathering Is all old es new
unfolding Gathering Among
one_passed {K} Is all es old new e g not q = (λ h. (g q).0 (before h), λ h. after ((g q).1 h))
  where
    before : (Contains new q ⊎ Among Is es q) → Contains new q ⊎ (((e.0 ≡ q) × Is e) ⊎ Among Is es q)
    before (inl c) = inl c
    before (inr a) = inr (inr a)

    after : (Contains new q ⊎ (((e.0 ≡ q) × Is e) ⊎ Among Is es q)) → Contains new q ⊎ Among Is es q
    after (inl c) = inl c
    after (inr (inl s)) = absurd (not s.1)
    after (inr (inr a)) = inr a

is_equal : (r : Ordering) → is_eq r ≡ true → r ≡ Equal
is_equal Equal t = refl
is_equal Less t = cc
is_equal Greater t = cc

-- the first entry with a key like this one
pub Finds : {K X : Type 0} (R : K → K → Ordering) → (K × X → Type 0) → List (K × X) → K → Type 0
Finds {X = X} R Is es q = (x : X) × (find R q es ≡ Some x) × Is (q, x)

among_found : {K X : Type 0} (R : K → K → Ordering) (o : IsTotalOrder R) (Is : K × X → Type 0) (es : List (K × X)) (q : K) → IsStrictlySortedBy R (keys_of es) → Among Is es q → Finds R Is es q
unfolding Among Finds IsStrictlySortedBy
among_found R o Is [] q h a = absurd a
among_found {K} {X} R o Is (e ∷ es) q h (inl s) = (e.1, ap (λ b. cond b (Some e.1) (find R q es)) (subst (λ k. eq_by_cmp R k e.0 ≡ true) s.0 ((eq_by_cmp_equiv o).refl e.0)), subst (λ k. Is (k, e.1)) s.0 s.1)
among_found {K} {X} R o Is (e ∷ es) q h (inr a) = let f = among_found R o Is es q h.1 a in (f.0, at (eq_by_cmp R q e.0) refl f.1, f.2)
  where
    at : (b : Bool) → eq_by_cmp R q e.0 ≡ b → {x : X} → find R q es ≡ Some x → cond b (Some e.1) (find R q es) ≡ Some x
    at false t f = f
    at true t f = cc (none_below R o e.0 q es t h.0, f)

found_among : {K X : Type 0} (R : K → K → Ordering) (o : IsTotalOrder R) (x : CmpEqualImpliesEq R) (Is : K × X → Type 0) (es : List (K × X)) (q : K) → Finds R Is es q → Among Is es q
unfolding Among Finds
found_among R o x Is [] q f = cc f.1
found_among {K} {X} R o x Is (e ∷ es) q f = at (λ s. found_among R o x Is es q (f.0, s, f.2)) (eq_by_cmp R q e.0) refl f.1
  where
    at : (find R q es ≡ Some f.0 → Among Is es q) → (b : Bool) → eq_by_cmp R q e.0 ≡ b → cond b (Some e.1) (find R q es) ≡ Some f.0 → ((e.0 ≡ q) × Is e) ⊎ Among Is es q
    at more true t s =
        let k : q ≡ e.0 = x q e.0 (is_equal (R q e.0) t) in
        let v : f.0 ≡ e.1 = cc s in
        inl (sym k, subst (λ k. Is (k, e.1)) k (subst (λ y. Is (q, y)) v f.2))
    at more false t s = inr (more s)

-- at the end the keys of such entries have come to the old ones
pub all_gathered : {K X : Type 0} (R : K → K → Ordering) (o : IsTotalOrder R) (x : CmpEqualImpliesEq R) (Is : K × X → Type 0) (all : List (K × X)) (old new : List K) → IsStrictlySortedBy R (keys_of all) → Gathering Is all old [] new → Gathers Is (from_entries {R = R} all) old new
unfolding Gathering Among Finds
all_gathered {K} {X} R o x Is all old new h g q = (λ c. on ((g q).0 (inl c)), λ c. back ((g q).1 (off c)))
  where
    on : (Contains old q ⊎ Among Is all q) → Contains old q ⊎ HasEntry Is (from_entries {R = R} all) q
    on (inl c) = inl c
    on (inr a) = let f = among_found R o Is all q h a in inr (f.0, get-from_entries o all q ∙ f.1, f.2)

    off : (Contains old q ⊎ HasEntry Is (from_entries {R = R} all) q) → Contains old q ⊎ Among Is all q
    off (inl c) = inl c
    off (inr f) = inr (found_among R o x Is all q (f.0, sym (get-from_entries o all q) ∙ f.1, f.2))

    back : (Contains new q ⊎ Among Is [] q) → Contains new q
    back (inl c) = c
    back (inr a) = absurd a

-- the same of a map that has these entries
pub starts : {K X : Type 0} (R : K → K → Ordering) (o : IsTotalOrder R) (Is : K × X → Type 0) (m : FinMap R X) (es start : List (K × X)) (old : List K) → from_entries {R = R} es ≡ m → IsStrictlySortedBy R (keys_of es) → start ≡ es → Gathering Is (entries m) old start old
starts {K} {X} R o Is m es start old view h e = subst (λ (xs : List (K × X)). Gathering Is xs old start old) (e ∙ sym (entries_of R o es h) ∙ ap entries view) (none_gathered Is start old)

pub ends : {K X : Type 0} (R : K → K → Ordering) (o : IsTotalOrder R) (x : CmpEqualImpliesEq R) (Is : K × X → Type 0) (m : FinMap R X) (es left : List (K × X)) (old new : List K) → from_entries {R = R} es ≡ m → IsStrictlySortedBy R (keys_of es) → left ≡ [] → Gathering Is (entries m) old left new → Gathers Is m old new
ends {K} {X} R o x Is m es left old new view h none g =
    let over : Gathering Is es old [] new = subst (λ (xs : List (K × X)). Gathering Is xs old [] new) (sym (sym (entries_of R o es h) ∙ ap entries view)) (subst (λ (xs : List (K × X)). Gathering Is (entries m) old xs new) none g) in
    subst (λ (n : FinMap R X). Gathers Is n old new) view (all_gathered R o x Is es old new h over)

-- a place is put, whose key is the entry's
pub one_place_gathered : {X : Type 0} (Is : (ℕ × List ℕ) × X → Type 0) (all es : List ((ℕ × List ℕ) × X)) (old : List (ℕ × List ℕ)) (new : List Place) (e : (ℕ × List ℕ) × X) (p : Place) → Gathering Is all old (e ∷ es) (map key_of new) → Is e → key_of p ≡ e.0 → Gathering Is all old es (map key_of (new ++ p ∷ []))
one_place_gathered Is all es old new e p g is k = subst (λ ks. Gathering Is all old es ks) (sym (map_push key_of new p ∙ ap (λ z. map key_of new ++ z ∷ []) k)) (one_gathered Is all es old (map key_of new) e g is)

-- ---- equal maps

-- what is found tells whether it is wanted
pub told_by : {A : Type 0} (r : Bool) (o : Option A) (a b : A) → Some a ≡ o → Decides r (a ≡ b) → Decides r (o ≡ Some b)
told_by r o a b s d = (λ t. sym s ∙ ap (λ x. Some x) (d.0 t), λ e. d.1 (same_Some a b (s ∙ e)))

pub told_none : {A : Type 0} (o : Option A) (b : A) → None ≡ o → Decides false (o ≡ Some b)
told_none o b s = (λ t. cc t, λ e. cc (s ∙ e))

-- each entry is in the other map
pub AreIn : {K X : Type 0} {R : K → K → Ordering} → FinMap R X → List (K × X) → Type 0
AreIn m [] = Unit {0}
AreIn m (e ∷ es) = (get m e.0 ≡ Some e.1) × AreIn m es

-- those that are left are so exactly if all are
pub Within : {K X : Type 0} {R : K → K → Ordering} → FinMap R X → List (K × X) → List (K × X) → Type 0
Within m all es = AreIn m es ↔ AreIn m all

pub within_so_far : {K X : Type 0} {R : K → K → Ordering} (m : FinMap R X) (all : List (K × X)) → Within m all all
unfolding Within
within_so_far m all = (λ h. h, λ h. h)

pub one_within : {K X : Type 0} {R : K → K → Ordering} (m : FinMap R X) (all es : List (K × X)) (e : K × X) → get m e.0 ≡ Some e.1 → Within m all (e ∷ es) → Within m all es
unfolding Within AreIn
one_within m all es e h w = (λ more. w.0 (h, more), λ so. (w.1 so).1)

pub one_not_within : {K X : Type 0} {R : K → K → Ordering} (m : FinMap R X) (all es : List (K × X)) (e : K × X) → (get m e.0 ≡ Some e.1 → ⊥) → Within m all (e ∷ es) → AreIn m all → ⊥
unfolding Within AreIn
one_not_within m all es e not w so = not (w.1 so).0

pub all_within : {K X : Type 0} {R : K → K → Ordering} (m : FinMap R X) (all : List (K × X)) → Within m all [] → AreIn m all
unfolding Within AreIn
all_within m all w = w.0 tt

from_all : {K X : Type 0} (R : K → K → Ordering) (x : CmpEqualImpliesEq R) (m : FinMap R X) (es : List (K × X)) (q : K) (v : X) → AreIn m es → find R q es ≡ Some v → get m q ≡ Some v
unfolding AreIn
from_all R x m [] q v so f = cc f
from_all {K} {X} R x m (e ∷ es) q v so f = at (from_all R x m es q v so.1) (eq_by_cmp R q e.0) refl f
  where
    at : (find R q es ≡ Some v → get m q ≡ Some v) → (b : Bool) → eq_by_cmp R q e.0 ≡ b → cond b (Some e.1) (find R q es) ≡ Some v → get m q ≡ Some v
    at more true t s = ap (get m) (x q e.0 (is_equal (R q e.0) t)) ∙ so.0 ∙ s
    at more false t s = more s

to_all : {K X : Type 0} (R : K → K → Ordering) (o : IsTotalOrder R) (m : FinMap R X) (es : List (K × X)) → IsStrictlySortedBy R (keys_of es) → ((q : K) (v : X) → find R q es ≡ Some v → get m q ≡ Some v) → AreIn m es
unfolding AreIn IsStrictlySortedBy
to_all R o m [] h f = tt
to_all {K} {X} R o m (e ∷ es) h f = (f e.0 e.1 (ap (λ b. cond b (Some e.1) (find R e.0 es)) ((eq_by_cmp_equiv o).refl e.0)), to_all R o m es h.1 (λ q v s. f q v (at q v (eq_by_cmp R q e.0) refl s)))
  where
    at : (q : K) (v : X) (b : Bool) → eq_by_cmp R q e.0 ≡ b → find R q es ≡ Some v → cond b (Some e.1) (find R q es) ≡ Some v
    at q v false t s = s
    at q v true t s = cc (none_below R o e.0 q es t h.0, s)

-- all entries of a map are in the other exactly if it is within it
is_within : {K X : Type 0} (R : K → K → Ordering) (o : IsTotalOrder R) (x : CmpEqualImpliesEq R) (m n : FinMap R X) (es : List (K × X)) → from_entries {R = R} es ≡ m → IsStrictlySortedBy R (keys_of es) → AreIn n es ↔ IsWithin m n
is_within R o x m n es v h = (
  λ so q y s. from_all R x n es q y so (sym (get-from_entries o es q) ∙ ap (λ k. get k q) v ∙ s),
  λ w. to_all R o n es h (λ q y s. w q y (sym (ap (λ k. get k q) v) ∙ get-from_entries o es q ∙ s)),
)

-- the entries of a map in their order are these
its_entries : {K X : Type 0} (R : K → K → Ordering) (o : IsTotalOrder R) (m : FinMap R X) (es : List (K × X)) → from_entries {R = R} es ≡ m → IsStrictlySortedBy R (keys_of es) → entries m ≡ es
its_entries R o m es v h = sym (ap entries v) ∙ entries_of R o es h

pub within_starts : {K X : Type 0} (R : K → K → Ordering) (o : IsTotalOrder R) (m n : FinMap R X) (es start : List (K × X)) → from_entries {R = R} es ≡ m → IsStrictlySortedBy R (keys_of es) → start ≡ es → Within n (entries m) start
within_starts R o m n es start v h e = subst (Within n (entries m)) (its_entries R o m es v h ∙ sym e) (within_so_far n (entries m))

pub within_ends : {K X : Type 0} (R : K → K → Ordering) (o : IsTotalOrder R) (x : CmpEqualImpliesEq R) (m n : FinMap R X) (es left : List (K × X)) → from_entries {R = R} es ≡ m → IsStrictlySortedBy R (keys_of es) → left ≡ [] → Within n (entries m) left → Decides true (IsWithin m n)
within_ends R o x m n es left v h none w =
    let all : AreIn n (entries m) = all_within n (entries m) (subst (Within n (entries m)) none w) in
    (λ t. (is_within R o x m n es v h).0 (subst (AreIn n) (its_entries R o m es v h) all), λ i. refl)

pub within_fails : {K X : Type 0} (R : K → K → Ordering) (o : IsTotalOrder R) (x : CmpEqualImpliesEq R) (m n : FinMap R X) (es rest : List (K × X)) (e : K × X) → from_entries {R = R} es ≡ m → IsStrictlySortedBy R (keys_of es) → (get n e.0 ≡ Some e.1 → ⊥) → Within n (entries m) (e ∷ rest) → Decides false (IsWithin m n)
within_fails R o x m n es rest e v h not w =
    (λ t. cc t, λ i. absurd (one_not_within n (entries m) rest e not w (subst (AreIn n) (sym (its_entries R o m es v h)) ((is_within R o x m n es v h).1 i))))

-- maps that are within each other are equal
pub both_within : {K X : Type 0} (R : K → K → Ordering) (o : IsTotalOrder R) (x : CmpEqualImpliesEq R) (m n : FinMap R X) → IsWithin m n → IsWithin n m → m ≡ n
both_within {K} {X} R o x m n v w = same_map o x m n (λ q. at q (get m q) (get n q) refl refl)
  where
    at : (q : K) (a b : Option X) → get m q ≡ a → get n q ≡ b → get m q ≡ get n q
    at q (Some y) b s t = s ∙ sym (v q y s)
    at q None (Some y) s t = w q y t ∙ sym t
    at q None None s t = s ∙ sym t

pub within_same : {K X : Type 0} {R : K → K → Ordering} (m n : FinMap R X) → m ≡ n → IsWithin m n
within_same m n e = λ q x s. sym (ap (λ k. get k q) e) ∙ s

-- ---- differences, gathered both ways

-- keys gathered on both sides are those where the maps differ
pub both_ways : {K X : Type 0} {R : K → K → Ordering} (m n : FinMap R X) (old one both : List K) → Gathers (IsUnlike n) m old one → Gathers (IsUnlike m) n one both → (q : K) → Contains both q ↔ (Contains old q ⊎ (get m q ≢ get n q))
both_ways {K} {X} m n old one both g h q = (λ c. on ((h q).0 c), back)
  where
    on : (Contains one q ⊎ HasEntry (IsUnlike m) n q) → Contains old q ⊎ (get m q ≢ get n q)
    on (inr x) = inr (λ e. x.2 (e ∙ x.1))
    on (inl c) = first ((g q).0 c)
      where
        first : (Contains old q ⊎ HasEntry (IsUnlike n) m q) → Contains old q ⊎ (get m q ≢ get n q)
        first (inl c) = inl c
        first (inr x) = inr (λ e. x.2 (sym e ∙ x.1))

    at : (a b : Option X) → get m q ≡ a → get n q ≡ b → (get m q ≢ get n q) → Contains both q
    at (Some x) b s t unlike = (h q).1 (inl ((g q).1 (inr (x, s, λ e. unlike (s ∙ sym e)))))
    at None (Some y) s t unlike = (h q).1 (inr (y, t, λ e. unlike (e ∙ sym t)))
    at None None s t unlike = absurd (unlike (s ∙ sym t))

    back : (Contains old q ⊎ (get m q ≢ get n q)) → Contains both q
    back (inl c) = (h q).1 (inl ((g q).1 (inl c)))
    back (inr unlike) = at (get m q) (get n q) refl refl unlike

-- so of bytes, of which those that were never written are zero
pub bytes_both_ways : (m n : FinMap place_cmp ℕ) (old one both : List (ℕ × ℕ)) → Gathers (IsOther n) m old one → Gathers (IsOther m) n one both → (q : ℕ × ℕ) → Contains both q ↔ (Contains old q ⊎ (unwrap_or (get m q) 0 ≢ unwrap_or (get n q) 0))
bytes_both_ways m n old one both g h q = (λ c. on ((h q).0 c), back)
  where
    byte : Option ℕ → ℕ
    byte o = unwrap_or o 0

    on : (Contains one q ⊎ HasEntry (IsOther m) n q) → Contains old q ⊎ (unwrap_or (get m q) 0 ≢ unwrap_or (get n q) 0)
    on (inr x) = inr (λ e. x.2 (e ∙ ap (λ o. unwrap_or o 0) x.1))
    on (inl c) = first ((g q).0 c)
      where
        first : (Contains old q ⊎ HasEntry (IsOther n) m q) → Contains old q ⊎ (unwrap_or (get m q) 0 ≢ unwrap_or (get n q) 0)
        first (inl c) = inl c
        first (inr x) = inr (λ e. x.2 (sym e ∙ ap (λ o. unwrap_or o 0) x.1))

    at : (a b : Option ℕ) → get m q ≡ a → get n q ≡ b → (unwrap_or (get m q) 0 ≢ unwrap_or (get n q) 0) → Contains both q
    at (Some x) b s t unlike = (h q).1 (inl ((g q).1 (inr (x, s, λ e. unlike (ap (λ o. unwrap_or o 0) s ∙ sym e)))))
    at None (Some y) s t unlike = (h q).1 (inr (y, t, λ e. unlike (e ∙ sym (ap (λ o. unwrap_or o 0) t))))
    at None None s t unlike = absurd (unlike (ap (λ o. unwrap_or o 0) s ∙ sym (ap (λ o. unwrap_or o 0) t)))

    back : (Contains old q ⊎ (unwrap_or (get m q) 0 ≢ unwrap_or (get n q) 0)) → Contains both q
    back (inl c) = (h q).1 (inl ((g q).1 (inl c)))
    back (inr unlike) = at (get m q) (get n q) refl refl unlike

no_element : {X : Type 0} (q : X) → Contains [] q → ⊥
no_element q c = absurd (omega (arith, c.1))

-- what is there besides nothing
pub besides_nothing : {K : Type 0} (none all : List K) (P : Type 0) (q : K) → none ≡ [] → Contains all q ↔ (Contains none q ⊎ P) → Contains all q ↔ P
besides_nothing {K} none all P q e h = (λ c. only (h.0 c), λ p. h.1 (inr p))
  where
    only : (Contains none q ⊎ P) → P
    only (inl c) = absurd (no_element q (subst (λ (ks : List K). Contains ks q) e c))
    only (inr p) = p

-- one more that is there is another cause
pub or_another : {A B C D : Type 0} → D ↔ (C ⊎ B) → C ↔ A → D ↔ (A ⊎ B)
or_another {A} {B} {C} {D} h g = (λ d. on (h.0 d), λ c. h.1 (off c))
  where
    on : (C ⊎ B) → A ⊎ B
    on (inl c) = inl (g.0 c)
    on (inr b) = inr b

    off : (A ⊎ B) → C ⊎ B
    off (inl a) = inl (g.1 a)
    off (inr b) = inr b
