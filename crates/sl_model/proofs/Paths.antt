-- A path up is no longer than there are nodes.
use Rattle.std.proofs.Common.{◌≡◌, ℕ, zero, suc, ◌-◌, ◌≤◌, Option, Some, None, cond, refl, sym, ap, subst, ◌∙◌, arith, inl, inr}
use Rattle.std.specs.Prelude.{is_some}
use Rattle.std.proofs.lemmas.Cmp.{nat_cmp_total}
use Rattle.std.proofs.lemmas.Map.Lookups.{exact_unsigned}
use Rattle.std.specs.FinMap.{get, remove, len, len-remove, empty_of_len, get-empty}
use Rattle.std.specs.Ordering.{nat_cmp}
use Rattle.sl_model.specs.declared.node.Node.{Node}
use Rattle.sl_model.specs.Tree.{Path, Nodes}
use Rattle.sl_model.proofs.MapSteps.{gone_else}

same_node : (m n : Node) → ◌≡◌ {A = Option Node} (Some m) (Some n) → m ≡ n
same_node m n e = cc

one_length : (m : Nodes) (x j k : ℕ) → Path m x j → Path m x k → j ≡ k
one_length m x zero zero p q = refl
one_length m x zero (suc k) (inl p) q = absurd (q.0 p)
one_length m x zero (suc k) (inr p) q = let a = q.2 in absurd cc
one_length m x (suc j) zero p (inl q) = absurd (p.0 q)
one_length m x (suc j) zero p (inr q) = let a = p.2 in absurd cc
one_length m x (suc j) (suc k) p q = ap suc (one_length m p.1.parent j k p.3 (subst (λ (n : Node). Path m n.parent k) (same_node q.1 p.1 (sym q.2 ∙ p.2)) q.3))

beside_path : (m : Nodes) (d k : ℕ) → Path m d (suc k) → (j x : ℕ) → j ≤ k → Path m x j → Path (remove m d) x j
beside_path m d k r zero x l (inl p) = inl p
beside_path m d k r zero x l (inr p) = inr (gone_else nat_cmp_total exact_unsigned m d x (λ e. let a = subst (λ z. get m z ≡ None) e p in let b = r.2 in absurd cc) ∙ p)
beside_path m d k r (suc j) x l p = (
  p.0,
  p.1,
  gone_else nat_cmp_total exact_unsigned m d x (λ e. let h = one_length m x (suc j) (suc k) p (subst (λ z. Path m z (suc k)) (sym e) r) in absurd (omega arith)) ∙ p.2,
  beside_path m d k r j p.1.parent (omega arith) p.3,
)

some_length : (m : Nodes) (d : ℕ) (n : Node) → get m d ≡ Some n → 1 ≤ len m
some_length m d n e = at (len m) refl
  where
    at : (k : ℕ) → len m ≡ k → 1 ≤ len m
    at zero h = let a = ap (λ (z : Nodes). get z d) (empty_of_len m h) in let b = get-empty {X = Node} nat_cmp d in absurd cc
    at (suc k) h = omega arith

pub path_bound : (k : ℕ) (m : Nodes) (d : ℕ) → Path m d k → k ≤ len m
path_bound zero m d p = omega arith
path_bound (suc k) m d p =
    let h = path_bound k (remove m d) p.1.parent (beside_path m d k p k p.1.parent (omega arith) p.3) in
    let l : len (remove m d) ≡ len m - 1 = len-remove nat_cmp_total m d ∙ ap (λ (o : Option Node). cond (is_some o) (len m - 1) (len m)) p.2 in
    let s = some_length m d p.1 p.2 in
    omega arith
