-- Maps by numbers, at numbers that are known.
use Rattle.std.proofs.Common.{◌≡◌, ℕ, Bool, true, false, Some, None, refl, sym, ap, subst, ◌∙◌, cond, List, [], ◌∷◌, Option, T, is_some, unwrap_or, arith}
use Rattle.std.specs.Ordering.{nat_cmp, eq_by_cmp}
use Rattle.std.specs.Cmp.{nat_cmp_total}
use Rattle.std.specs.FinMap.{FinMap, empty, get, insert, find, get-empty, get-insert, gets}

pub got_here : {X : Type 0} (m : FinMap nat_cmp X) (k : ℕ) (v : X) → get (insert m k v) k ≡ Some v
got_here m k v = grind (arith, gets)

-- what another key has is there still
pub got_past : {X : Type 0} (m : FinMap nat_cmp X) (k : ℕ) (v : X) (q : ℕ) (r : Option X) → eq_by_cmp nat_cmp q k ≡ false → get m q ≡ r → get (insert m k v) q ≡ r
got_past m k v q r apart e = get-insert nat_cmp_total m k v q ∙ ap (λ b. cond b (Some v) (get m q)) apart ∙ e

pub got_none : {X : Type 0} (q : ℕ) → get (empty {X = X} {R = nat_cmp}) q ≡ None
got_none q = get-empty nat_cmp q

pub same_key : (q k : ℕ) → eq_by_cmp nat_cmp q k ≡ true → q ≡ k
same_key q k e = grind arith

same_value : {X : Type 0} (x y : X) → Some x ≡ Some y → x ≡ y
same_value x y e = ap (λ o. unwrap_or o x) e

no_value : {X : Type 0} (x : X) → None ≡ Some x → ⊥
no_value x e = subst (λ o. T (is_some o) → ⊥) e (λ h. h) tt

-- all entries of a list meet it
abbrev pub AllMeet : {X : Type 0} → (ℕ → X → Type 0) → List (ℕ × X) → Type 0
AllMeet P [] = Unit {0}
AllMeet P (e ∷ es) = P e.0 e.1 × AllMeet P es

by_key : {X : Type 0} (P : ℕ → X → Type 0) (q : ℕ) (x : X) (e : ℕ × X) (others : Option X) (b : Bool) → eq_by_cmp nat_cmp q e.0 ≡ b
    → P e.0 e.1 → (others ≡ Some x → P q x) → cond b (Some e.1) others ≡ Some x → P q x
by_key P q x e others true is here there found = subst (λ k. P k x) (sym (same_key q e.0 is)) (subst (P e.0) (same_value e.1 x found) here)
by_key P q x e others false is here there found = there found

-- what is found among them meets it
pub found_meets : {X : Type 0} (P : ℕ → X → Type 0) (es : List (ℕ × X)) → AllMeet P es → (q : ℕ) (x : X) → find nat_cmp q es ≡ Some x → P q x
found_meets P [] all q x found = absurd (no_value x found)
found_meets P (e ∷ es) all q x found = by_key P q x e (find nat_cmp q es) (eq_by_cmp nat_cmp q e.0) refl all.0 (found_meets P es all.1 q x) found
