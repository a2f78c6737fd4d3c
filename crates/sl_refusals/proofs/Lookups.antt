-- Maps at keys that are known.
use Rattle.std.proofs.Common.{◌≡◌, ℕ, true, false, Option, Some, None, List, ap, ◌∙◌, cond}
use Rattle.std.specs.Cmp.{IsTotalOrder, nat_cmp_total, then_total, on_total}
use Rattle.std.specs.Cmp.Lexicographic.{nat_list_cmp_total}
use Rattle.std.specs.Ordering.{nat_cmp, eq_by_cmp}
use Rattle.std.specs.declared.cmp.Ordering.{Ordering}
use Rattle.std.specs.FinMap.{FinMap, get, insert, remove, get-insert, get-remove}
use Rattle.sl_model.specs.declared.node.Node.{Node}
use Rattle.sl_model.specs.Volume.{Volume, PutNode, name_cmp, place_cmp, seen, put_seen, changed}

module _ {K X : Type 0} {R : K → K → Ordering} (total : IsTotalOrder R) (m : FinMap R X) (k : K) where
  pub put_here : (x : X) → eq_by_cmp R k k ≡ true → get (insert m k x) k ≡ Some x
  put_here x same = get-insert total m k x k ∙ ap (λ b. cond b (Some x) (get m k)) same

  -- what another key has is there still
  pub put_past : (x : X) (q : K) (r : Option X) → eq_by_cmp R q k ≡ false → get m q ≡ r → get (insert m k x) q ≡ r
  put_past x q r apart is = get-insert total m k x q ∙ ap (λ b. cond b (Some x) (get m q)) apart ∙ is

  pub taken_here : eq_by_cmp R k k ≡ true → get (remove m k) k ≡ None
  taken_here same = get-remove total m k k ∙ ap (λ b. cond b None (get m k)) same

  pub taken_past : (q : K) (r : Option X) → eq_by_cmp R q k ≡ false → get m q ≡ r → get (remove m k) q ≡ r
  taken_past q r apart is = get-remove total m k q ∙ ap (λ b. cond b None (get m q)) apart ∙ is

-- names are in a total order
pub names_total : IsTotalOrder name_cmp
names_total = then_total (on_total (λ (p : ℕ × List ℕ). p.0) nat_cmp_total) (on_total (λ (p : ℕ × List ℕ). p.1) nat_list_cmp_total)

-- and so are places of bytes
pub places_total : IsTotalOrder place_cmp
places_total = then_total (on_total (λ (p : ℕ × ℕ). p.0) nat_cmp_total) (on_total (λ (p : ℕ × ℕ). p.1) nat_cmp_total)

-- a flush of one file leaves all other nodes
pub flushed_past : (m : FinMap nat_cmp Node) (f : ℕ) (o : Option Node) (q : ℕ) (r : Option Node) → eq_by_cmp nat_cmp q f ≡ false → get m q ≡ r → get (put_seen m f o) q ≡ r
flushed_past m f None q r apart is = is
flushed_past m f (Some n) q r apart is = put_past nat_cmp_total m f n q r apart is

pub node_put : (v : Volume) (f : ℕ) (n : Node) → eq_by_cmp nat_cmp f f ≡ true → get (changed (PutNode f n) v).nodes f ≡ Some n
node_put v f n same = put_here nat_cmp_total _ f n same

pub node_past : (v : Volume) (f : ℕ) (n : Node) (q : ℕ) (r : Option Node) → eq_by_cmp nat_cmp q f ≡ false → get v.nodes q ≡ r → get (changed (PutNode f n) v).nodes q ≡ r
node_past v f n q r apart is = put_past nat_cmp_total (put_seen v.nodes f (seen v f)) f n q r apart (flushed_past v.nodes f (seen v f) q r apart is)
