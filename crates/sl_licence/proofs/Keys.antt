-- Keys of several numbers.
use Rattle.std.proofs.Common.{◌≡◌, ℕ, Bool, true, false, cond, ◌||◌, ◌&&◌, refl, ap, ◌∙◌, arith}
use Rattle.std.proofs.lemmas.Bool.Decides.{nat_tests}
use Rattle.std.specs.Prelude.{◌==◌}
use Rattle.std.specs.Cmp.{nat_eq_equiv}
use Rattle.std.specs.Ordering.{is_eq, nat_cmp, ordering_then}
use Rattle.std.specs.declared.cmp.Ordering.{Ordering}
use Rattle.std.specs.declared.cmp.Ordering.TheVariants.{Less, Equal, Greater}

pub same_number : (x y : ℕ) → is_eq (nat_cmp x y) ≡ (x == y)
same_number x y = grind (arith, nat_tests)

pub same_then : (a b : Ordering) → is_eq (ordering_then a b) ≡ (is_eq a && is_eq b)
same_then Less b = refl
same_then Equal b = refl
same_then Greater b = refl

both : (a b c d : Bool) → a ≡ c → b ≡ d → (a && b) ≡ (c && d)
both a b c d p q = ap (λ (x : Bool). x && b) p ∙ ap (λ (x : Bool). c && x) q

pub same_two : (a b c d : ℕ) → is_eq (ordering_then (nat_cmp a b) (nat_cmp c d)) ≡ (a == b && c == d)
same_two a b c d = same_then (nat_cmp a b) (nat_cmp c d) ∙ both (is_eq (nat_cmp a b)) (is_eq (nat_cmp c d)) (a == b) (c == d) (same_number a b) (same_number c d)

pub same_three : (a b c d e f : ℕ) → is_eq (ordering_then (nat_cmp a b) (ordering_then (nat_cmp c d) (nat_cmp e f))) ≡ (a == b && (c == d && e == f))
same_three a b c d e f =
    same_then (nat_cmp a b) (ordering_then (nat_cmp c d) (nat_cmp e f))
    ∙ both (is_eq (nat_cmp a b)) (is_eq (ordering_then (nat_cmp c d) (nat_cmp e f))) (a == b) (c == d && e == f) (same_number a b) (same_two c d e f)

pub same_four : (a b c d e f g h : ℕ) → is_eq (ordering_then (nat_cmp a b) (ordering_then (nat_cmp c d) (ordering_then (nat_cmp e f) (nat_cmp g h)))) ≡ (a == b && (c == d && (e == f && g == h)))
same_four a b c d e f g h =
    same_then (nat_cmp a b) (ordering_then (nat_cmp c d) (ordering_then (nat_cmp e f) (nat_cmp g h)))
    ∙ both (is_eq (nat_cmp a b)) (is_eq (ordering_then (nat_cmp c d) (ordering_then (nat_cmp e f) (nat_cmp g h)))) (a == b) (c == d && (e == f && g == h)) (same_number a b) (same_three c d e f g h)

or_by : (b c : Bool) → cond b true c ≡ (b || c)
or_by true c = refl
or_by false c = refl

-- a set with one key more
pub one_more_key : (n b c d : Bool) → n ≡ cond b true d → b ≡ c → n ≡ (c || d)
one_more_key n b c d is same = is ∙ or_by b d ∙ ap (λ (x : Bool). x || d) same

pub flipped : (x y : ℕ) → (x == y) ≡ (y == x)
flipped x y = nat_eq_equiv.symm x y
