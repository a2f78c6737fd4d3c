-- Whether any of the items that are left passes a test.
use Rattle.std.proofs.Common.{◌≡◌, ℕ, ◌+◌, ◌<◌, ◌≤◌, Bool, true, false, not, ◌&&◌, ◌||◌, List, [], ◌∷◌, drop, get_or, length, refl, ap, sym, ◌∙◌}
use Rattle.std.proofs.lemmas.List.{drop_all, drop_more}
use Rattle.std.specs.Prelude.{map}
use Rattle.std.specs.List.{list_any}
use Rattle.sl_history.specs.Completing.{no_one_down}
use Rattle.sl_past.specs.Words.{remark_of}
use Rattle.sl_past.specs.declared.remark.Remark as remark
use Rattle.sl_recall.proofs.CountLaws.{down_first}

left_is : {A : Type 0} (xs : List A) (i : ℕ) (x d : A) → i < length xs → x ≡ get_or xs i d → drop i xs ≡ x ∷ drop (i + 1) xs
left_is xs i x d less is = drop_more xs i d less ∙ ap (λ y. y ∷ drop (i + 1) xs) (sym is)

pub any_here : {A : Type 0} (f : A → Bool) (xs : List A) (i : ℕ) (x d : A) → i < length xs → x ≡ get_or xs i d → f x ≡ true → list_any f (drop i xs) ≡ true
any_here f xs i x d less is t = ap (list_any f) (left_is xs i x d less is) ∙ ap (λ b. b || list_any f (drop (i + 1) xs)) t

pub any_passed : {A : Type 0} (f : A → Bool) (xs : List A) (i : ℕ) (x d : A) → i < length xs → x ≡ get_or xs i d → f x ≡ false → list_any f (drop (i + 1) xs) ≡ list_any f (drop i xs)
any_passed f xs i x d less is t = sym (ap (list_any f) (left_is xs i x d less is) ∙ ap (λ b. b || list_any f (drop (i + 1) xs)) t)

pub any_end : {A : Type 0} (f : A → Bool) (xs : List A) (i : ℕ) → length xs ≤ i → list_any f (drop i xs) ≡ false
any_end f xs i all = ap (list_any f) (drop_all i xs all)

-- ---- so of actors that went down

remark_left : (xs : List remark.Remark) (i : ℕ) (x : remark.Remark) → i < length xs → x ≡ get_or xs i x
    → no_one_down (map remark_of (drop i xs)) ≡ (no_one_down (remark_of x ∷ []) && no_one_down (map remark_of (drop (i + 1) xs)))
remark_left xs i x less is = ap (λ ys. no_one_down (map remark_of ys)) (left_is xs i x x less is) ∙ down_first (remark_of x) (map remark_of (drop (i + 1) xs))

pub down_here : (xs : List remark.Remark) (i : ℕ) (x : remark.Remark) → i < length xs → x ≡ get_or xs i x → true ≡ not (no_one_down (remark_of x ∷ [])) → no_one_down (map remark_of (drop i xs)) ≡ false
down_here xs i x less is t = remark_left xs i x less is ∙ ap (λ b. b && no_one_down (map remark_of (drop (i + 1) xs))) (negated (no_one_down (remark_of x ∷ [])) t)
  where
    negated : (b : Bool) → true ≡ not b → b ≡ false
    negated true e = e
    negated false e = refl

pub down_passed : (xs : List remark.Remark) (i : ℕ) (x : remark.Remark) → i < length xs → x ≡ get_or xs i x → false ≡ not (no_one_down (remark_of x ∷ [])) → no_one_down (map remark_of (drop (i + 1) xs)) ≡ no_one_down (map remark_of (drop i xs))
down_passed xs i x less is t = sym (remark_left xs i x less is ∙ ap (λ b. b && no_one_down (map remark_of (drop (i + 1) xs))) (negated (no_one_down (remark_of x ∷ [])) t))
  where
    negated : (b : Bool) → false ≡ not b → b ≡ true
    negated true e = refl
    negated false e = e

pub down_end : (xs : List remark.Remark) (i : ℕ) → length xs ≤ i → no_one_down (map remark_of (drop i xs)) ≡ true
down_end xs i all = ap (λ ys. no_one_down (map remark_of ys)) (drop_all i xs all)
