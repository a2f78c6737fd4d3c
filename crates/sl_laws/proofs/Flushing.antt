-- A flush leaves a tree a tree.
use Rattle.std.proofs.Common.{◌≡◌, ℕ, ◌+◌, List, [], ◌∷◌, Option, Some, None, true, false, cond, refl, sym, ap, subst, ◌∙◌, arith, inl, inr}
use Rattle.std.specs.Prelude.{◌≢◌, ◌==◌}
use Rattle.std.specs.List.{AllByRecursion}
use Rattle.std.proofs.lemmas.Bool.{eqb-false}
use Rattle.std.specs.FinMap.{get}
use Rattle.sl_model.specs.declared.node.Node.{Node}
use Rattle.sl_model.specs.Volume.{Volume, Unstable, seen_as, put_seen, is_dir, after_writes, without_file}
use Rattle.sl_model.specs.Tree.{Nodes, IsTree, Tree, IsOfFile, nothing}
use Rattle.sl_laws.specs.Laws.{FlushKeepsTree}
use Rattle.sl_laws.proofs.Steps.{put_node_cases, beside_put}
use Rattle.sl_laws.proofs.NodeSteps.{put_node}
use Rattle.sl_laws.proofs.Views.{writes_keep, directory_seen}

-- the writes of other files are of files still
module _ (old new : Nodes) (f : ℕ) (same : (g : ℕ) → g ≢ f → get new g ≡ get old g) where
  pub others_of : (ws : List Unstable) → AllByRecursion (IsOfFile old) ws → AllByRecursion (IsOfFile new) (without_file f ws)
  others_of [] h = tt
  others_of (w ∷ ws) h =
      elim (w.fileid == f) as (λ b. (w.fileid == f) ≡ b → AllByRecursion (IsOfFile new) (cond b (without_file f ws) (w ∷ without_file f ws))) [
        | true ↦ λ t. others_of ws h.1
        | false ↦ λ t. ((h.0.0, same w.fileid (eqb-false w.fileid f t) ∙ h.0.1, h.0.2), others_of ws h.1)
      ] refl

module _ (v : Volume) (t : Tree v) (f : ℕ) where
  tree_with : (o : Option Node) → get v.nodes f ≡ o → IsTree nothing v.number (put_seen v.nodes f (seen_as v.unstable o)) v.names
  tree_with None e = t.tree
  tree_with (Some x) e =
      let y = after_writes v.unstable x in
      let k = writes_keep v.unstable x in
      let own = (t.tree.own f x e).fileid in
      let at : get v.nodes x.fileid ≡ Some x = ap (get v.nodes) own ∙ e in
      put_node nothing nothing v.number v.nodes v.names t.tree f x y e k.alike
      (ap (λ b. cond (is_dir b) (cond (f == 1) 0 1) y.nlink + 0) k.alike.kind ∙ ap (λ n. cond (is_dir x.kind) (cond (f == 1) 0 1) n + 0) k.nlink)
      (λ g ne. refl)
      (λ s. (k.nlink, k.entries, ap (λ (z : Node). z.size) (directory_seen v.nodes x at s v.unstable t.unstable)))
      (λ s. let a = (t.tree.others f x e s).nlink in let b = k.nlink in omega arith)

  used_with : (o : Option Node) → get v.nodes f ≡ o → (g : ℕ) (n : Node) → get (put_seen v.nodes f (seen_as v.unstable o)) g ≡ Some n → get v.used g ≡ Some tt
  used_with None e g n h = t.used g n h
  used_with (Some x) e g n h = elim (put_node_cases v.nodes f (after_writes v.unstable x) g n h) [
    | inl p ↦ subst (λ z. get v.used z ≡ Some tt) (sym p.0) (t.used f x e)
    | inr p ↦ t.used g n p.1
  ]

  beside_with : (o : Option Node) → (g : ℕ) → g ≢ f → get (put_seen v.nodes f (seen_as v.unstable o)) g ≡ get v.nodes g
  beside_with None g ne = refl
  beside_with (Some x) g ne = beside_put v.nodes f (after_writes v.unstable x) g ne

pub flush_keeps_tree : FlushKeepsTree
flush_keeps_tree v f t = record {
  tree = tree_with v t f (get v.nodes f) refl;
  used = used_with v t f (get v.nodes f) refl;
  unstable = others_of v.nodes (put_seen v.nodes f (seen_as v.unstable (get v.nodes f))) f (beside_with v t f (get v.nodes f)) v.unstable t.unstable;
}
