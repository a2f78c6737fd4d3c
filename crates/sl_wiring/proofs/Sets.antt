-- Lists of keys, and the tree sets that have them.
use Rattle.std.proofs.Common.{◌≡◌, Bool, true, false, List, [], ◌∷◌, cond, refl, ap, sym, subst, ◌∙◌, ◌↔◌, arith, inl, inr, ◌⊎◌}
use Rattle.std.proofs.lemmas.List.Elements.{Contains-append_cases, Contains-append_left, Contains-append_right, Contains-push, Contains-push_cases}
use Rattle.std.proofs.lemmas.Map.Lookups.{CmpEqualImpliesEq}
use Rattle.std.proofs.lemmas.Map.Views.{btree_set_contains_iff}
use Rattle.std.specs.Cmp.{IsTotalOrder}
use Rattle.std.specs.List.{Contains}
use Rattle.std.specs.BTreeMap.{is_at}
use Rattle.std.specs.BTreeSet.{BTreeSet, Updates, contains}
use Rattle.std.specs.Ordering.{is_eq}
use Rattle.std.specs.declared.cmp.Ordering.{Ordering}
use Rattle.std.specs.declared.cmp.Ordering.TheVariants.{Less, Equal, Greater}
use Rattle.sl_wiring.specs.Given.{HasOneMore}

-- ---- lists

pub no_key : {A : Type 0} (x : A) → Contains [] x → ⊥
no_key x (k, below, is) = omega (arith, below)

pub first_key : {A : Type 0} (x : A) (xs : List A) → Contains (x ∷ xs) x
first_key x xs = Contains-append_left (x ∷ []) xs x (Contains-push [] x)

pub later_key : {A : Type 0} (x y : A) (xs : List A) → Contains xs y → Contains (x ∷ xs) y
later_key x y xs has = Contains-append_right (x ∷ []) xs y has

pub key_cases : {A : Type 0} (x y : A) (xs : List A) → Contains (x ∷ xs) y → (x ≡ y) ⊎ Contains xs y
key_cases x y xs has = elim (Contains-append_cases (x ∷ []) xs y has) [
  | inl one ↦ elim (Contains-push_cases [] x y one) [
    | inl none ↦ absurd (no_key y none)
    | inr same ↦ inl same
  ]
  | inr more ↦ inr more
]

-- ---- sets

is_equal : (r : Ordering) → is_eq r ≡ true → r ≡ Equal
is_equal Equal t = refl
is_equal Less t = cc
is_equal Greater t = cc

-- a key that is put is there, with those before
pub one_more : {K : Type 0} (R : K → K → Ordering) (o : IsTotalOrder R) (x : CmpEqualImpliesEq R) (s n : BTreeSet K) (k : K) → Updates R s n k true → HasOneMore s.keys n.keys k
one_more {K = K} R o x s n k up = λ y. (forth y, back y)
  where
    at : (y : K) (b : Bool) → is_at (R k) y ≡ b → contains R n y ≡ cond b true (contains R s y)
    at y b t = up.0 y ∙ ap (λ z. cond z true (contains R s y)) t

    forth_by : (y : K) (b : Bool) → is_at (R k) y ≡ b → contains R n y ≡ true → Contains s.keys y ⊎ (y ≡ k)
    forth_by y true t has = inr (sym (x k y (is_equal (R k y) t)))
    forth_by y false t has = inl ((btree_set_contains_iff o x s y).0 (sym (at y false t) ∙ has))

    forth : (y : K) → Contains n.keys y → Contains s.keys y ⊎ (y ≡ k)
    forth y has = forth_by y (is_at (R k) y) refl ((btree_set_contains_iff o x n y).1 has)

    old : (y : K) (b : Bool) → is_at (R k) y ≡ b → contains R s y ≡ true → contains R n y ≡ true
    old y true t has = at y true t
    old y false t has = at y false t ∙ has

    itself : contains R n k ≡ true
    itself = up.1

    back : (y : K) → Contains s.keys y ⊎ (y ≡ k) → Contains n.keys y
    back y (inl has) = (btree_set_contains_iff o x n y).0 (old y (is_at (R k) y) refl ((btree_set_contains_iff o x s y).1 has))
    back y (inr same) = subst (λ (z : K). Contains n.keys z) (sym same) ((btree_set_contains_iff o x n k).0 itself)

-- a test of a set, by the list of its keys
pub has_key : {K : Type 0} (R : K → K → Ordering) (o : IsTotalOrder R) (x : CmpEqualImpliesEq R) (s : BTreeSet K) (k : K) (b : Bool) → b ≡ contains R s k → (b ≡ true) ↔ Contains s.keys k
has_key R o x s k b e = (λ t. (btree_set_contains_iff o x s k).0 (sym e ∙ t), λ has. e ∙ (btree_set_contains_iff o x s k).1 has)
