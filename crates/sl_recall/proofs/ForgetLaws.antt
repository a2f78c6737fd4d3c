-- The last write verifier or flush, from turn to turn; and when nothing was forgotten and nothing changed.
use Rattle.std.proofs.Common.{◌≡◌, ℕ, Bool, true, false, not, ◌&&◌, ◌||◌, List, [], ◌∷◌, ◌++◌, refl, ap, sym, ◌∙◌, arith}
use Rattle.std.specs.Prelude.{nat_le, if◌then◌else◌}
use Rattle.std.specs.List.{list_any}
use Rattle.sl_defs.specs.Histories.{Happening}
use Rattle.sl_defs.specs.declared.setup.Time.{Time}
use Rattle.sl_history.specs.Turns.{Remark, Turn, History, begun, events, noted}
use Rattle.sl_history.specs.Remembering.{comes, forgets, is_calm}
use Rattle.sl_recall.specs.Changing.{IsForgotten, is_unchanged, is_unforgotten}
use Rattle.sl_recall.proofs.ChangeLaws.{is_le, le_is}

and_true : (b : Bool) → (b && true) ≡ b
and_true true = refl
and_true false = refl

and_false : (b : Bool) → (b && false) ≡ false
and_false true = refl
and_false false = refl

or_none : (b : Bool) → (b || false) ≡ b
or_none true = refl
or_none false = refl

or_some : (b : Bool) → (b || true) ≡ true
or_some true = refl
or_some false = refl

pub forgets_append : (rs : List Remark) (r : Remark) → list_any forgets (rs ++ r ∷ []) ≡ (list_any forgets rs || forgets r)
forgets_append [] r = or_none (forgets r)
forgets_append (q ∷ rs) r = ap (λ b. forgets q || b) (forgets_append rs r) ∙ grouped (forgets q) (list_any forgets rs) (forgets r)
  where
    grouped : (a b c : Bool) → (a || (b || c)) ≡ ((a || b) || c)
    grouped true b c = refl
    grouped false b c = refl

pub nothing_forgotten : (g : ℕ) → g ≡ 0 → IsForgotten [] g
unfolding is_unforgotten
nothing_forgotten g z = record { is = λ e. sym (le_is g e (omega (arith, z))); within = omega (arith, z) }

pub begins : (h : History) (x : Happening) (m : Time) (g : ℕ) → IsForgotten h g → IsForgotten (begun h x m) g
unfolding is_unforgotten
begins h x m g is = record { is = λ e. at e (nat_le (events (begun h x m)) e) refl; within = omega (arith, is.within) }
  where
    at : (e : ℕ) (b : Bool) → nat_le (events (begun h x m)) e ≡ b → (if b then true else is_unforgotten h e && true) ≡ nat_le g e
    at e true s = sym (le_is g e (omega (arith, is.within, is_le (events (begun h x m)) e s)))
    at e false s = and_true (is_unforgotten h e) ∙ is.is e

pub forgotten : (t : Turn) (past : History) (r : Remark) (g : ℕ) → forgets r ≡ true → g ≡ events (t ∷ past) → IsForgotten (noted (t ∷ past) r) g
unfolding is_unforgotten
forgotten t past r g f now = record { is = λ e. at e (nat_le (events (t ∷ past)) e) refl; within = omega (arith, now) }
  where
    any : list_any forgets (t.remarks ++ r ∷ []) ≡ true
    any = forgets_append t.remarks r ∙ ap (λ b. list_any forgets t.remarks || b) f ∙ or_some (list_any forgets t.remarks)

    at : (e : ℕ) (b : Bool) → nat_le (events (t ∷ past)) e ≡ b → (if b then true else is_unforgotten past e && not (list_any forgets (t.remarks ++ r ∷ []))) ≡ nat_le g e
    at e true s = sym (ap (λ k. nat_le k e) now ∙ s)
    at e false s = ap (λ b. is_unforgotten past e && not b) any ∙ and_false (is_unforgotten past e) ∙ sym (ap (λ k. nat_le k e) now ∙ s)

pub stays : (t : Turn) (past : History) (r : Remark) (g : ℕ) → forgets r ≡ false → IsForgotten (t ∷ past) g → IsForgotten (noted (t ∷ past) r) g
unfolding is_unforgotten
stays t past r g f is = record {
  is = λ e. ap (λ b. if nat_le (events (t ∷ past)) e then true else is_unforgotten past e && not b) (forgets_append t.remarks r ∙ ap (λ b. list_any forgets t.remarks || b) f ∙ or_none (list_any forgets t.remarks)) ∙ is.is e;
  within = is.within;
}

regroup : (a b c d : Bool) → ((a && b) && (c && d)) ≡ ((a && c) && (b && d))
regroup true true c d = refl
regroup true false true d = refl
regroup true false false d = refl
regroup false b c d = refl

pub calm_is : (h : History) (e n : ℕ) → is_calm h e n ≡ (is_unforgotten h e && is_unchanged h e n)
unfolding is_calm is_unforgotten is_unchanged
calm_is [] e n = refl
calm_is (t ∷ past) e n = at (nat_le (events (t ∷ past)) e) (calm_is past e n)
  where
    at : (b : Bool) → is_calm past e n ≡ (is_unforgotten past e && is_unchanged past e n)
        → (if b then true else is_calm past e n && (not (list_any forgets t.remarks) && not (comes past t n)))
        ≡ ((if b then true else is_unforgotten past e && not (list_any forgets t.remarks)) && (if b then true else is_unchanged past e n && not (comes past t n)))
    at true ih = refl
    at false ih = ap (λ b. b && (not (list_any forgets t.remarks) && not (comes past t n))) ih ∙ regroup (is_unforgotten past e) (is_unchanged past e n) (not (list_any forgets t.remarks)) (not (comes past t n))
