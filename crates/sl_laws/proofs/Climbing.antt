-- From each live directory the parents lead to the root.
use Rattle.std.proofs.Common.{◌≡◌, ℕ, zero, suc, List, Option, Some, None, Bool, true, false, cond, refl, sym, ap, subst, ◌∙◌, arith, inl, inr}
use Rattle.std.specs.Prelude.{◌≢◌, ◌==◌}
use Rattle.std.proofs.lemmas.Bool.{eqb-true, ne_eqb}
use Rattle.std.specs.FinMap.{get}
use Rattle.sl_model.specs.declared.node.Node.{Node}
use Rattle.sl_model.specs.declared.node.Entry.{Entry}
use Rattle.sl_model.specs.Volume.{is_dir}
use Rattle.sl_model.specs.Tree.{Path, leads_to, names_due, Nodes, Names, IsTree, nothing}
use Rattle.sl_model.proofs.MapSteps.{count_none}
use Rattle.sl_model.proofs.Paths.{path_bound}
use Rattle.sl_laws.specs.Laws.{Climbs, ParentsEndAtRoot}
use Rattle.sl_laws.proofs.Steps.{same_node, directory_due}

-- whether a live directory stands there is decided
up : (nodes : Nodes) (d : ℕ) (P : Type 0) → ((m : Node) → get nodes d ≡ Some m → is_dir m.kind ≡ true → P) → (o : Option Node) → get nodes d ≡ o
    → (((m : Node) → get nodes d ≡ Some m → is_dir m.kind ≡ true → ⊥) → ⊥) → P
up nodes d P h None e has = absurd (has (λ z g u. absurd cc))
up nodes d P h (Some m) e has = directory (is_dir m.kind) refl
  where
    directory : (b : Bool) → is_dir m.kind ≡ b → P
    directory true s = h m e s
    directory false s = absurd (has (λ z g u. let q = ap (λ (w : Node). is_dir w.kind) (same_node z m (sym g ∙ e)) in absurd cc))

module _ (number : ℕ) (nodes : Nodes) (names : Names) (t : IsTree nothing number nodes names) where
  -- a directory that isn't the root has a name, and so a parent that is one
  has_parent : (d : ℕ) (n : Node) → get nodes d ≡ Some n → is_dir n.kind ≡ true → d ≢ 1 → ((m : Node) → get nodes n.parent ≡ Some m → is_dir m.kind ≡ true → ⊥) → ⊥
  has_parent d n at sort ne wrong =
      let none = count_none (leads_to d) names (λ k e h. unnamed k e h (e.fileid == d) refl) in
      let due = t.named d n at in
      let one : names_due d n ≡ 1 = directory_due d n sort ∙ ap (λ b. cond b 0 1) (ne_eqb d 1 ne) in
      absurd (omega arith)
    where
      unnamed : (k : ℕ × List ℕ) (e : Entry) → get names k ≡ Some e → (b : Bool) → (e.fileid == d) ≡ b → (e.fileid == d) ≡ false
      unnamed k e h false u = u
      unnamed k e h true u =
          let l = t.leads k.0 k.1 e h in
          let home = t.homes k.0 k.1 e h in
          let same : l.node ≡ n = same_node l.node n (sym l.at ∙ ap (get nodes) (eqb-true e.fileid d u) ∙ at) in
          let parent : n.parent ≡ k.0 = subst (λ (z : Node). is_dir z.kind ≡ true → z.parent ≡ k.0) same l.parent sort in
          absurd (wrong home.node (ap (get nodes) parent ∙ home.at) home.is_directory)

  climbs : (k d : ℕ) (n : Node) → get nodes d ≡ Some n → is_dir n.kind ≡ true → Path nodes d k → Climbs nodes d k
  climbs zero d n at sort (inl p) = p
  climbs zero d n at sort (inr p) = absurd cc
  climbs (suc k) d n at sort p =
      let same : p.1 ≡ n = same_node p.1 n (sym p.2 ∙ at) in
      let sort' : is_dir p.1.kind ≡ true = subst (λ (z : Node). is_dir z.kind ≡ true) (sym same) sort in
      (p.0, p.1, p.2, up nodes p.1.parent (Climbs nodes p.1.parent k) (λ m e u. climbs k p.1.parent m e u p.3) (get nodes p.1.parent) refl (has_parent d p.1 p.2 sort' p.0))

pub parents_end_at_root : ParentsEndAtRoot
parents_end_at_root v d n t at sort =
    let p = t.tree.paths d in
    (p.0, path_bound p.0 v.nodes d p.1, climbs v.number v.nodes v.names t.tree p.0 d n at sort p.1)
