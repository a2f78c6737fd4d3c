-- Maps by numbers.
use Rattle.std.proofs.Common.{◌≡◌, ℕ, Bool, true, false, Some, None, refl, sym, ap, ◌∙◌, cond, Option, arith}
use Rattle.std.proofs.lemmas.Map.Lookups.{exact_unsigned}
use Rattle.std.specs.Ordering.{nat_cmp}
use Rattle.std.specs.Cmp.{nat_cmp_total}
use Rattle.std.specs.FinMap.{FinMap, empty, get, insert, retain_keys, get-retain_keys, get-empty, gets, same_map}

pub got_here : {X : Type 0} (m : FinMap nat_cmp X) (k : ℕ) (v : X) → get (insert m k v) k ≡ Some v
got_here m k v = grind (arith, gets)

none_either : {X : Type 0} (b : Bool) (o : Option X) → o ≡ None → cond b o None ≡ None
none_either true o e = e
none_either false o e = refl

-- of nothing nothing is kept
pub none_retained : {X : Type 0} (p : ℕ → Bool) → retain_keys (empty {X = X} {R = nat_cmp}) p ≡ empty
none_retained p = same_map nat_cmp_total exact_unsigned _ _ (λ q.
    get-retain_keys empty p q (λ x e. ap p (sym (exact_unsigned q x e))) ∙ none_either (p q) (get empty q) (get-empty nat_cmp q) ∙ sym (get-empty nat_cmp q))
