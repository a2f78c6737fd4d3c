-- Bytes one by one, and parents.
use Rattle.std.proofs.Common.{◌≡◌, ℕ, suc, ◌+◌, ◌-◌, ◌<◌, ◌≤◌, true, false, List, [], ◌∷◌, ◌++◌, sym, ap, ◌∙◌, arith, append_assoc}
use Rattle.std.specs.Prelude.{◌==◌, if◌then◌else◌}
use Rattle.std.specs.FinMap as map
use Rattle.std.specs.FinMap.{FinMap}
use Rattle.std.specs.Ordering.{nat_cmp}
use Rattle.sl_model.specs.declared.node.Node.{Node}
use Rattle.sl_model.specs.Volume.{Volume, byte_at, bytes_from, below_on, below_within}

pub one_more : (v : Volume) (f at i count : ℕ) (xs : List ℕ) → i < count → (xs ++ byte_at v f (at + i) ∷ []) ++ bytes_from v f (at + (i + 1)) (count - (i + 1)) ≡ xs ++ bytes_from v f (at + i) (count - i)
one_more v f at i count xs h =
    let left : count - i ≡ suc (count - (i + 1)) = omega (arith, h) in
    let next : at + (i + 1) ≡ (at + i) + 1 = omega arith in
    append_assoc xs (byte_at v f (at + i) ∷ []) (bytes_from v f (at + (i + 1)) (count - (i + 1)))
    ∙ ap (λ z. xs ++ z) (ap (λ a. byte_at v f (at + i) ∷ bytes_from v f a (count - (i + 1))) next ∙ sym (ap (λ n. bytes_from v f (at + i) n) left))

-- one step up, where steps are left
pub below_step : (n i : ℕ) (nodes : FinMap nat_cmp Node) (a d : ℕ) → i < n → below_within (n - i) nodes a d ≡
    (if d == a then true else if d == 1 then false else below_on (below_within (n - (i + 1)) nodes a) (map.get nodes d))
below_step n i nodes a d h = let left : n - i ≡ suc (n - (i + 1)) = omega (arith, h) in ap (λ k. below_within k nodes a d) left

-- no step is left
pub below_end : (n i : ℕ) (nodes : FinMap nat_cmp Node) (a d : ℕ) → n ≤ i → below_within (n - i) nodes a d ≡ true
below_end n i nodes a d h = let left : n - i ≡ 0 = omega (arith, h) in ap (λ k. below_within k nodes a d) left
