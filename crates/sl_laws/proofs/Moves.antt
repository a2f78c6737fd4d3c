-- A directory without a name gets another parent.
use Rattle.std.proofs.Common.{◌≡◌, ℕ, zero, suc, ◌+◌, ◌*◌, ◌≤◌, ◌<◌, Option, Some, None, Bool, true, false, cond, refl, sym, ap, subst, ◌∙◌, arith, inl, inr}
use Rattle.std.specs.Prelude.{◌≢◌, ◌==◌}
use Rattle.std.proofs.lemmas.Bool.{cases_eq, eq-eqb, ne_eqb}
use Rattle.std.specs.FinMap.{get, insert}
use Rattle.sl_model.specs.declared.node.Node.{Node}
use Rattle.sl_model.specs.Volume.{is_dir, below_within, below_on}
use Rattle.sl_model.specs.Tree.{Path, count_of, leads_to, names_due, Nodes, Names, Counts, OwnIs, IsTree}
use Rattle.sl_model.proofs.MapSteps.{count_has}
use Rattle.sl_laws.proofs.Steps.{same_node, put_node_cases, at_put, beside_put}

-- what a test of a directory says where it answers no
not_here : (b c : Bool) (r : Bool) → cond b true (cond c false r) ≡ false → b ≡ false
not_here true c r e = absurd cc
not_here false c r e = refl

not_above : (b c : Bool) (r : Bool) → c ≡ false → cond b true (cond c false r) ≡ false → r ≡ false
not_above true c r h e = absurd cc
not_above false true r h e = absurd cc
not_above false false r h e = e

on_some : (up : ℕ → Bool) (o : Option Node) (n : Node) → o ≡ Some n → below_on up o ≡ false → up n.parent ≡ false
on_some up None n e h = absurd cc
on_some up (Some m) n e h = ap (λ (z : Node). up z.parent) (sym (same_node m n e)) ∙ h

differs : (q a : ℕ) → (q == a) ≡ false → q ≢ a
differs q a e h = let f = eq-eqb q a h in absurd cc

module _ (nodes : Nodes) (d : ℕ) (y : Node) where
  -- a directory that isn't below d has its path still
  pub off_path : (k F p : ℕ) → k < F → Path nodes p k → below_within F nodes d p ≡ false → Path (insert nodes d y) p k
  off_path k zero p l path e = absurd (omega arith)
  off_path zero (suc F) p l (inl one) e = inl one
  off_path zero (suc F) p l (inr none) e = inr (beside_put nodes d y p (differs p d (not_here (p == d) (p == 1) _ e)) ∙ none)
  off_path (suc k) (suc F) p l path e = (
    path.0,
    path.1,
    beside_put nodes d y p (differs p d (not_here (p == d) (p == 1) _ e)) ∙ path.2,
    off_path k F path.1.parent (omega arith) path.3 (on_some (below_within F nodes d) (get nodes p) path.1 path.2 (not_above (p == d) (p == 1) _ (ne_eqb p 1 path.0) e)),
  )

module _ (owed : ℕ → ℕ) (number : ℕ) (nodes : Nodes) (names : Names) (t : IsTree owed number nodes names) (d p : ℕ) (x y : Node) (at : get nodes d ≡ Some x) (sort : is_dir x.kind ≡ true) (not_root : d ≢ 1)
    (unnamed : count_of (leads_to d) names ≡ 0) (fileid : y.fileid ≡ x.fileid) (fsid : y.fsid ≡ x.fsid) (kind : y.kind ≡ x.kind) (nlink : y.nlink ≡ x.nlink) (entries : y.entries ≡ x.entries) (size : y.size ≡ x.size)
    (made : x.made ≤ y.made) (parent : y.parent ≡ p) (j : ℕ) (path : Path (insert nodes d y) p j) where
  paths_moved : (k f : ℕ) → Path nodes f k → (i : ℕ) × Path (insert nodes d y) f i
  paths_moved k f q = elim (cases_eq f d) [
    | inl e ↦ (suc j, ((λ z. not_root (sym e ∙ z)), y, subst (λ z. get (insert nodes d y) z ≡ Some y) (sym e) (at_put nodes d y), subst (λ z. Path (insert nodes d y) z j) (sym parent) path))
    | inr ne ↦ beside k f q ne
  ]
    where
      beside : (k f : ℕ) → Path nodes f k → f ≢ d → (i : ℕ) × Path (insert nodes d y) f i
      beside zero f (inl e) ne = (0, inl e)
      beside zero f (inr e) ne = (0, inr (beside_put nodes d y f ne ∙ e))
      beside (suc k) f q ne = elim (cases_eq q.1.parent d) [
        | inl e ↦ (
          suc (suc j),
          (
            q.0,
            q.1,
            beside_put nodes d y f ne ∙ q.2,
            subst (λ z. Path (insert nodes d y) z (suc j)) (sym e)
                (not_root, y, at_put nodes d y, subst (λ z. Path (insert nodes d y) z j) (sym parent) path),
          ),
        )
        | inr n ↦ let r = beside k q.1.parent q.3 n in (suc r.0, (q.0, q.1, beside_put nodes d y f ne ∙ q.2, r.1))
      ]

  pub move_node : IsTree owed number (insert nodes d y) names
  move_node =
      let new = insert nodes d y in
      record {
        own = λ f n h. elim (put_node_cases nodes d y f n h) [
          | inl q ↦ subst (λ w. OwnIs number w n) (sym q.0) (subst (λ w. OwnIs number d w) q.1 (let w = t.own d x at in record { fileid = fileid ∙ w.fileid; fsid = fsid ∙ w.fsid }))
          | inr q ↦ t.own f n q.1
        ];
        root = record { node = t.root.node; at = beside_put nodes d y 1 (λ e. not_root (sym e)) ∙ t.root.at; is_directory = t.root.is_directory; parent = t.root.parent };
        no_zero = beside_put nodes d y 0 (λ e. let a = ap (get nodes) e ∙ at in let b = t.no_zero in absurd cc) ∙ t.no_zero;
        homes = λ c k g h. elim (cases_eq c d) [
          | inl e ↦ let a = t.homes c k g h in
              let s : a.node ≡ x = same_node a.node x (sym a.at ∙ ap (get nodes) e ∙ at) in
              let r : a.node.made ≡ x.made = ap (λ (z : Node). z.made) s in
              let l = a.cookie in
              record { node = y; at = subst (λ z. get new z ≡ Some y) (sym e) (at_put nodes d y); is_directory = ap is_dir kind ∙ sort; cookie = omega arith }
          | inr ne ↦ let a = t.homes c k g h in record { node = a.node; at = beside_put nodes d y c ne ∙ a.at; is_directory = a.is_directory; cookie = a.cookie }
        ];
        leads = λ c k g h.
            let a = t.leads c k g h in
            record { node = a.node; at = beside_put nodes d y g.fileid (λ e. absurd (let b = count_has (leads_to d) names (c, k) g h (eq-eqb g.fileid d e) in omega arith)) ∙ a.at; same_kind = a.same_kind; parent = a.parent };
        cookies = t.cookies;
        named = λ f n h. elim (put_node_cases nodes d y f n h) [
          | inl q ↦ subst (λ w. count_of (leads_to w) names + owed w ≡ names_due w n) (sym q.0) (subst (λ w. count_of (leads_to d) names + owed d ≡ names_due d w) q.1
              (t.named d x at ∙ ap (λ b. cond b (cond (d == 1) 0 1) x.nlink) (sym (ap is_dir kind)) ∙ ap (λ m. cond (is_dir y.kind) (cond (d == 1) 0 1) m) (sym nlink)))
          | inr q ↦ t.named f n q.1
        ];
        directories = λ f n h k. elim (put_node_cases nodes d y f n h) [
          | inl q ↦ subst (λ w. Counts w n names) (sym q.0) (subst (λ w. Counts d w names) q.1
              (let c = t.directories d x at sort in record { nlink = nlink ∙ c.nlink; entries = entries ∙ c.entries; size = size ∙ c.size ∙ ap (λ m. 32 * m) (sym entries) }))
          | inr q ↦ t.directories f n q.1 k
        ];
        others = λ f n h k. elim (put_node_cases nodes d y f n h) [
          | inl q ↦ let a = ap is_dir kind ∙ sort in let b = ap (λ (w : Node). is_dir w.kind) q.1 in absurd cc
          | inr q ↦ t.others f n q.1 k
        ];
        paths = λ f. let q = t.paths f in paths_moved q.0 f q.1;
      }
