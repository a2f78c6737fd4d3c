-- Maps in any order, at keys that are known.
use Rattle.std.proofs.Common.{◌≡◌, ℕ, true, false, Option, Some, None, List, ap, ◌∙◌, cond}
use Rattle.std.specs.Cmp.{IsTotalOrder, nat_cmp_total, then_total, on_total}
use Rattle.std.specs.Cmp.Lexicographic.{nat_list_cmp_total}
use Rattle.std.specs.Ordering.{eq_by_cmp}
use Rattle.std.specs.declared.cmp.Ordering.{Ordering}
use Rattle.std.specs.FinMap.{FinMap, get, insert, remove, get-insert, get-remove}
use Rattle.sl_model.specs.Volume.{name_cmp}

module _ {K X : Type 0} {R : K → K → Ordering} (total : IsTotalOrder R) (m : FinMap R X) (k : K) where
  pub put_here : (x : X) → eq_by_cmp R k k ≡ true → get (insert m k x) k ≡ Some x
  put_here x same = get-insert total m k x k ∙ ap (λ b. cond b (Some x) (get m k)) same

  -- what another key has is there still
  pub put_past : (x : X) (q : K) (r : Option X) → eq_by_cmp R q k ≡ false → get m q ≡ r → get (insert m k x) q ≡ r
  put_past x q r apart is = get-insert total m k x q ∙ ap (λ b. cond b (Some x) (get m q)) apart ∙ is

  pub taken_here : eq_by_cmp R k k ≡ true → get (remove m k) k ≡ None
  taken_here same = get-remove total m k k ∙ ap (λ b. cond b None (get m k)) same

  pub taken_past : (q : K) (r : Option X) → eq_by_cmp R q k ≡ false → get m q ≡ r → get (remove m k) q ≡ r
  taken_past q r apart is = get-remove total m k q ∙ ap (λ b. cond b None (get m q)) apart ∙ is

-- names are in a total order
pub names_total : IsTotalOrder name_cmp
names_total = then_total (on_total (λ (p : ℕ × List ℕ). p.0) nat_cmp_total) (on_total (λ (p : ℕ × List ℕ). p.1) nat_list_cmp_total)
