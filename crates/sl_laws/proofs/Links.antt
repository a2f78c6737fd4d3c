-- An object changes, loses a name, or gets one.
use Rattle.std.proofs.Common.{◌≡◌, ℕ, zero, suc, ◌+◌, List, Some, Bool, true, false, cond, refl, sym, ap, subst, ◌∙◌, arith, inl, inr}
use Rattle.std.specs.Prelude.{◌≢◌, ◌==◌, ◌||◌}
use Rattle.std.proofs.lemmas.Bool.{eqb-true, eqb-false, eq-eqb, ne_eqb}
use Rattle.std.specs.FinMap.{get, insert, remove}
use Rattle.sl_defs.specs.declared.setup.Time.{Time}
use Rattle.sl_model.specs.declared.node.Node.{Node}
use Rattle.sl_model.specs.declared.node.Entry.{Entry}
use Rattle.sl_model.specs.Volume.{is_dir, PutNode, TakeNode}
use Rattle.sl_model.specs.Gathered.{VolumeCells, changed_cells}
use Rattle.sl_model.specs.Changing.{dropped, is_last, with_fewer_links, with_more_links}
use Rattle.sl_model.specs.Tree.{Path, count_of, leads_to, stands_in, names_due, Nodes, Names, IsTree, one_of, nothing}
use Rattle.sl_model.proofs.MapSteps.{count_none, count_has}
use Rattle.sl_model.proofs.Alike.{or_false}
use Rattle.sl_laws.proofs.Steps.{same_node, other_test, same_test, directory_due}
use Rattle.sl_laws.proofs.NodeSteps.{put_node, take_node}
use Rattle.sl_laws.proofs.Views.{Kept, Like}

pub due_other : (f : ℕ) (x : Node) → is_dir x.kind ≡ false → names_due f x ≡ x.nlink
due_other f x t = ap (λ b. cond b (cond (f == 1) 0 1) x.nlink) t

pub one_here : (f : ℕ) → one_of f f ≡ 1
one_here f = ap (λ b. cond b 1 0) (same_test f)

pub one_else : (f g : ℕ) → g ≢ f → one_of f g ≡ 0
one_else f g ne = ap (λ b. cond b 1 0) (other_test f g ne)

module _ (owed : ℕ → ℕ) (number : ℕ) (nodes : Nodes) (names : Names) (t : IsTree owed number nodes names) (f : ℕ) (x : Node) (at : get nodes f ≡ Some x) where
  pub no_entries : is_dir x.kind ≡ false → count_of (stands_in f) names ≡ 0
  no_entries sort = count_none (stands_in f) names (λ k e h. apart k e h (k.0 == f) refl)
    where
      apart : (k : ℕ × List ℕ) (e : Entry) → get names k ≡ Some e → (b : Bool) → (k.0 == f) ≡ b → (k.0 == f) ≡ false
      apart k e h false u = u
      apart k e h true u =
          let a = t.homes k.0 k.1 e h in
          let p = a.is_directory in
          let b = ap (λ (z : Node). is_dir z.kind) (same_node a.node x (sym a.at ∙ ap (get nodes) (eqb-true k.0 f u) ∙ at)) in
          absurd cc

  -- a node is put that is like the one there
  pub put_like : (y : Node) → Like x y → IsTree owed number (insert nodes f y) names
  put_like y l =
      let k = l.kept in
      put_node owed owed number nodes names t f x y at k.alike
      (ap (λ b. cond (is_dir b) (cond (f == 1) 0 1) y.nlink + owed f) k.alike.kind ∙ ap (λ n. cond (is_dir x.kind) (cond (f == 1) 0 1) n + owed f) k.nlink)
      (λ g ne. refl) (λ s. (k.nlink, k.entries, l.size s)) (λ s. let a = (t.others f x at s).nlink in let b = k.nlink in omega arith)

-- a name leads to no root
pub not_the_root : (owed : ℕ → ℕ) (number : ℕ) (nodes : Nodes) (names : Names) → IsTree owed number nodes names → (d : ℕ) (m : List ℕ) (e : Entry) → get names (d, m) ≡ Some e → e.fileid ≢ 1
not_the_root owed number nodes names t d m e named q =
    let r = t.root in
    let c = t.named 1 r.node r.at in
    let due : names_due 1 r.node ≡ 0 = directory_due 1 r.node r.is_directory in
    let h = count_has (leads_to 1) names (d, m) e named (eq-eqb e.fileid 1 q) in
    omega arith

module _ (owed left : ℕ → ℕ) (number : ℕ) (nodes : Nodes) (names : Names) (t : IsTree owed number nodes names) (f : ℕ) (x n : Node) (now : Time) (at : get nodes f ≡ Some x) (kept : Kept x n) (own : x.fileid ≡ f)
    (owes : owed f ≡ 1) (paid : left f ≡ 0) (else : (g : ℕ) → g ≢ f → owed g ≡ left g) (not_root : f ≢ 1) (empty : is_dir x.kind ≡ true → x.entries ≡ 0) where
  none_left : (b : Bool) → is_dir x.kind ≡ b → is_last n ≡ true → (count_of (leads_to f) names ≡ 0) × (count_of (stands_in f) names ≡ 0)
  none_left true k l =
      let c = t.named f x at in
      let d : names_due f x ≡ 1 = directory_due f x k ∙ ap (λ b. cond b 0 1) (ne_eqb f 1 not_root) in
      let e = (t.directories f x at k).entries in
      let z = empty k in
      (omega arith, omega arith)
  none_left false k l =
      let c = t.named f x at in
      let d = due_other f x k in
      let e : x.nlink ≡ 1 = sym kept.nlink ∙ eqb-true n.nlink 1 (sym (ap (λ b. b || (n.nlink == 1)) (ap is_dir kept.alike.kind ∙ k)) ∙ l) in
      (omega arith, no_entries owed number nodes names t f x at k)

  -- the object pays the name that it owes: it has a link less, or goes
  pub drop_any : (c : VolumeCells) → c.nodes ≡ nodes → c.names ≡ names → IsTree left number (changed_cells (dropped n now) c).nodes (changed_cells (dropped n now) c).names
  drop_any c in_nodes in_names =
      elim (is_last n) as (λ b. is_last n ≡ b → IsTree left number (changed_cells (cond b (TakeNode n.fileid) (PutNode n.fileid (with_fewer_links n now))) c).nodes (changed_cells (cond b (TakeNode n.fileid) (PutNode n.fileid (with_fewer_links n now))) c).names) [
        | true ↦ λ l. let z = none_left (is_dir x.kind) refl l in
            back (λ m. remove m n.fileid) (subst (λ g. IsTree left number (remove nodes g) names) (sym place) (take_node owed left number nodes names t f not_root z.0 z.1 else))
        | false ↦ λ l.
            let q = or_false (is_dir n.kind) (n.nlink == 1) l in
            let sort : is_dir x.kind ≡ false = sym (ap is_dir kept.alike.kind) ∙ q.0 in
            let d = due_other f x sort in
            let e = due_other f (with_fewer_links n now) q.0 in
            let o = (t.others f x at sort).nlink in
            let k = kept.nlink in
            let u : n.nlink ≢ 1 = eqb-false n.nlink 1 q.1 in
            back (λ m. insert m n.fileid (with_fewer_links n now)) (subst (λ g. IsTree left number (insert nodes g (with_fewer_links n now)) names) (sym place)
            (put_node owed left number nodes names t f x (with_fewer_links n now) at (record { fileid = kept.alike.fileid; fsid = kept.alike.fsid; kind = kept.alike.kind; parent = kept.alike.parent; made = kept.alike.made })
            (omega arith) else (λ s. absurd (let a = sort in cc)) (λ s. omega arith)))
      ] refl
    where
      place : n.fileid ≡ f
      place = kept.alike.fileid ∙ own

      back : (F : Nodes → Nodes) → IsTree left number (F nodes) names → IsTree left number (F c.nodes) c.names
      back F h = subst (λ m. IsTree left number (F m) c.names) (sym in_nodes) (subst (λ m. IsTree left number (F nodes) m) (sym in_names) h)

module _ (number : ℕ) (nodes : Nodes) (names : Names) (f : ℕ) (x n : Node) (now : Time) (at : get nodes f ≡ Some x) (sort : is_dir x.kind ≡ false) (kept : Kept x n) where
  -- the object gets a link, and owes a name
  pub raise_link : IsTree nothing number nodes names → IsTree (one_of f) number (insert nodes f (with_more_links n now)) names
  raise_link t =
      let d = due_other f x sort in
      let o = one_here f in
      let e = due_other f (with_more_links n now) (ap is_dir kept.alike.kind ∙ sort) in
      let k = kept.nlink in
      put_node nothing (one_of f) number nodes names t f x (with_more_links n now) at (record { fileid = kept.alike.fileid; fsid = kept.alike.fsid; kind = kept.alike.kind; parent = kept.alike.parent; made = kept.alike.made })
      (omega arith) (λ g ne. sym (one_else f g ne)) (λ s. absurd (let q = sort in cc)) (λ s. omega arith)

-- a node whose parent it is itself is the root
loops : (m : Nodes) (d : ℕ) (n : Node) → get m d ≡ Some n → n.parent ≡ d → (k : ℕ) → Path m d k → d ≡ 1
loops m d n at e zero (inl p) = p
loops m d n at e zero (inr p) = absurd cc
loops m d n at e (suc k) p = loops m d n at e k (subst (λ z. Path m z k) (ap (λ (z : Node). z.parent) (same_node p.1 n (sym p.2 ∙ at)) ∙ e) p.3)

pub not_own_parent : (owed : ℕ → ℕ) (number : ℕ) (nodes : Nodes) (names : Names) → IsTree owed number nodes names → (d : ℕ) (n : Node) → get nodes d ≡ Some n → d ≢ 1 → n.parent ≢ d
not_own_parent owed number nodes names t d n at ne e = let p = t.paths d in ne (loops nodes d n at e p.0 p.1)
