-- A node changes, goes or comes.
use Rattle.std.proofs.Common.{◌≡◌, ℕ, zero, suc, ◌+◌, ◌*◌, ◌≤◌, Some, None, true, false, cond, sym, ap, subst, ◌∙◌, arith, inl, inr}
use Rattle.std.specs.Prelude.{◌≢◌}
use Rattle.std.proofs.lemmas.Bool.{cases_eq, eq-eqb, ne_eqb}
use Rattle.std.proofs.lemmas.Cmp.{nat_cmp_total}
use Rattle.std.proofs.lemmas.Map.Lookups.{exact_unsigned}
use Rattle.std.specs.FinMap.{get, insert, remove}
use Rattle.sl_model.specs.declared.node.Node.{Node}
use Rattle.sl_model.specs.Volume.{is_dir}
use Rattle.sl_model.specs.Tree.{Path, count_of, leads_to, stands_in, names_due, Nodes, Names, Counts, OwnIs, IsOther, IsTree, one_of, nothing}
use Rattle.sl_model.proofs.MapSteps.{gone_here, gone_else, take_cases, count_has, count_none}
use Rattle.sl_laws.proofs.Steps.{Alike, put_alike, put_node_cases, at_put, beside_put, none_kept, paths_alike, root_alike, own_alike, home_alike, leads_alike, same_test, other_test}

-- ---- a node changes, and not its place

module _ (owed left : ℕ → ℕ) (number : ℕ) (nodes : Nodes) (names : Names) (t : IsTree owed number nodes names) (d : ℕ) (x y : Node) (at : get nodes d ≡ Some x) (alike : Alike x y)
    (due : names_due d y + owed d ≡ names_due d x + left d) (else : (f : ℕ) → f ≢ d → owed f ≡ left f)
    (kept : is_dir x.kind ≡ true → (y.nlink ≡ x.nlink) × (y.entries ≡ x.entries) × (y.size ≡ x.size)) (linked : is_dir x.kind ≡ false → 1 ≤ y.nlink) where
  pub put_node : IsTree left number (insert nodes d y) names
  put_node =
      let s = put_alike nodes d x y at alike in
      let new = insert nodes d y in
      record {
        own = own_alike nodes new s number t.own;
        root = root_alike nodes new s t.root;
        no_zero = none_kept nodes new s 0 t.no_zero;
        homes = λ c k g h. home_alike nodes new s c g (t.homes c k g h);
        leads = λ c k g h. leads_alike nodes new s c g (t.leads c k g h);
        cookies = t.cookies;
        named = λ f n h. elim (put_node_cases nodes d y f n h) [
          | inl p ↦ subst (λ w. count_of (leads_to w) names + left w ≡ names_due w n) (sym p.0) (subst (λ w. count_of (leads_to d) names + left d ≡ names_due d w) p.1
              (let a = t.named d x at in omega arith))
          | inr p ↦ let a = t.named f n p.1 in let b = else f p.0 in omega arith
        ];
        directories = λ f n h k. elim (put_node_cases nodes d y f n h) [
          | inl p ↦ subst (λ w. Counts w n names) (sym p.0) (subst (λ w. Counts d w names) p.1 (counted (sym (ap is_dir alike.kind) ∙ ap (λ (w : Node). is_dir w.kind) p.1 ∙ k)))
          | inr p ↦ t.directories f n p.1 k
        ];
        others = λ f n h k. elim (put_node_cases nodes d y f n h) [
          | inl p ↦ subst (λ w. IsOther w) p.1 (other (sym (ap is_dir alike.kind) ∙ ap (λ (w : Node). is_dir w.kind) p.1 ∙ k))
          | inr p ↦ t.others f n p.1 k
        ];
        paths = λ f. let p = t.paths f in (p.0, paths_alike nodes new s p.0 f p.1);
      }
    where
      counted : is_dir x.kind ≡ true → Counts d y names
      counted k =
          let c = t.directories d x at k in
          let a = kept k in
          record { nlink = a.0 ∙ c.nlink; entries = a.1 ∙ c.entries; size = a.2 ∙ c.size ∙ ap (λ n. 32 * n) (sym a.1) }

      other : is_dir x.kind ≡ false → IsOther y
      other k = record { nlink = linked k; parent = alike.parent ∙ (t.others d x at k).parent }

-- ---- a node goes

node_gone : (nodes : Nodes) (d f : ℕ) (n : Node) → get (remove nodes d) f ≡ Some n → (f ≢ d) × (get nodes f ≡ Some n)
node_gone nodes d f n e = take_cases nat_cmp_total exact_unsigned nodes d f n e

beside_gone : (nodes : Nodes) (d f : ℕ) → f ≢ d → get (remove nodes d) f ≡ get nodes f
beside_gone nodes d f ne = gone_else nat_cmp_total exact_unsigned nodes d f ne

path_cut : (nodes : Nodes) (d : ℕ) (k f : ℕ) → Path nodes f k → (j : ℕ) × Path (remove nodes d) f j
path_cut nodes d k f p = elim (cases_eq f d) [
  | inl e ↦ (0, inr (subst (λ z. get (remove nodes d) z ≡ None) (sym e) (gone_here nat_cmp_total exact_unsigned nodes d)))
  | inr ne ↦ beside k f p ne
]
  where
    beside : (k f : ℕ) → Path nodes f k → f ≢ d → (j : ℕ) × Path (remove nodes d) f j
    beside zero f (inl e) ne = (0, inl e)
    beside zero f (inr e) ne = (0, inr (beside_gone nodes d f ne ∙ e))
    beside (suc k) f p ne = elim (cases_eq p.1.parent d) [
      | inl e ↦ (1, (p.0, p.1, beside_gone nodes d f ne ∙ p.2, inr (subst (λ z. get (remove nodes d) z ≡ None) (sym e) (gone_here nat_cmp_total exact_unsigned nodes d))))
      | inr n ↦ let r = beside k p.1.parent p.3 n in (suc r.0, (p.0, p.1, beside_gone nodes d f ne ∙ p.2, r.1))
    ]

module _ (owed left : ℕ → ℕ) (number : ℕ) (nodes : Nodes) (names : Names) (t : IsTree owed number nodes names) (d : ℕ) (not_root : d ≢ 1)
    (no_names : count_of (leads_to d) names ≡ 0) (no_entries : count_of (stands_in d) names ≡ 0) (else : (f : ℕ) → f ≢ d → owed f ≡ left f) where
  pub take_node : IsTree left number (remove nodes d) names
  take_node =
      let new = remove nodes d in
      record {
        own = λ f n h. t.own f n (node_gone nodes d f n h).1;
        root = record { node = t.root.node; at = beside_gone nodes d 1 (λ e. not_root (sym e)) ∙ t.root.at; is_directory = t.root.is_directory; parent = t.root.parent };
        no_zero = zero_gone;
        homes = λ c k g h.
            let a = t.homes c k g h in
            record { node = a.node; at = beside_gone nodes d c (λ e. absurd (let b = count_has (stands_in d) names (c, k) g h (eq-eqb c d e) in omega arith)) ∙ a.at; is_directory = a.is_directory; cookie = a.cookie };
        leads = λ c k g h.
            let a = t.leads c k g h in
            record { node = a.node; at = beside_gone nodes d g.fileid (λ e. absurd (let b = count_has (leads_to d) names (c, k) g h (eq-eqb g.fileid d e) in omega arith)) ∙ a.at; same_kind = a.same_kind; parent = a.parent };
        cookies = t.cookies;
        named = λ f n h. let g = node_gone nodes d f n h in let a = t.named f n g.1 in let b = else f g.0 in omega arith;
        directories = λ f n h k. t.directories f n (node_gone nodes d f n h).1 k;
        others = λ f n h k. t.others f n (node_gone nodes d f n h).1 k;
        paths = λ f. let p = t.paths f in path_cut nodes d p.0 f p.1;
      }
    where
      zero_gone : get (remove nodes d) 0 ≡ None
      zero_gone = elim (cases_eq 0 d) [
        | inl e ↦ subst (λ z. get (remove nodes d) z ≡ None) (sym e) (gone_here nat_cmp_total exact_unsigned nodes d)
        | inr ne ↦ beside_gone nodes d 0 ne ∙ t.no_zero
      ]

-- ---- a node without a name comes

module _ (number : ℕ) (nodes : Nodes) (names : Names) (t : IsTree nothing number nodes names) (d : ℕ) (y : Node) (none : get nodes d ≡ None) (not_zero : d ≢ 0) (own : OwnIs number d y)
    (due : names_due d y ≡ 1) (counts : is_dir y.kind ≡ true → Counts d y names) (other : is_dir y.kind ≡ false → IsOther y)
    (above : (k : ℕ) × Path (insert nodes d y) y.parent k) where
  known : (f : ℕ) (n : Node) → get nodes f ≡ Some n → f ≢ d
  known f n h e = let g = subst (λ z. get nodes z ≡ Some n) e h in absurd cc

  path_long : (k f : ℕ) → Path nodes f k → (j : ℕ) × Path (insert nodes d y) f j
  path_long zero f (inl e) = (0, inl e)
  path_long zero f (inr e) = elim (cases_eq f d) [
    | inl s ↦ (suc above.0, ((λ r. known 1 t.root.node t.root.at (sym r ∙ s)), y, subst (λ z. get (insert nodes d y) z ≡ Some y) (sym s) (at_put nodes d y), above.1))
    | inr ne ↦ (0, inr (beside_put nodes d y f ne ∙ e))
  ]
  path_long (suc k) f p = let r = path_long k p.1.parent p.3 in (suc r.0, (p.0, p.1, beside_put nodes d y f (known f p.1 p.2) ∙ p.2, r.1))

  pub add_node : IsTree (one_of d) number (insert nodes d y) names
  add_node =
      let new = insert nodes d y in
      record {
        own = λ f n h. elim (put_node_cases nodes d y f n h) [
          | inl p ↦ subst (λ w. OwnIs number w n) (sym p.0) (subst (λ w. OwnIs number d w) p.1 own)
          | inr p ↦ t.own f n p.1
        ];
        root = record { node = t.root.node; at = beside_put nodes d y 1 (known 1 t.root.node t.root.at) ∙ t.root.at; is_directory = t.root.is_directory; parent = t.root.parent };
        no_zero = beside_put nodes d y 0 (λ e. not_zero (sym e)) ∙ t.no_zero;
        homes = λ c k g h.
            let a = t.homes c k g h in
            record { node = a.node; at = beside_put nodes d y c (known c a.node a.at) ∙ a.at; is_directory = a.is_directory; cookie = a.cookie };
        leads = λ c k g h.
            let a = t.leads c k g h in
            record { node = a.node; at = beside_put nodes d y g.fileid (known g.fileid a.node a.at) ∙ a.at; same_kind = a.same_kind; parent = a.parent };
        cookies = t.cookies;
        named = λ f n h. elim (put_node_cases nodes d y f n h) [
          | inl p ↦ subst (λ w. count_of (leads_to w) names + one_of d w ≡ names_due w n) (sym p.0) (subst (λ w. count_of (leads_to d) names + one_of d d ≡ names_due d w) p.1 fresh)
          | inr p ↦ let a = t.named f n p.1 in let b : one_of d f ≡ 0 = ap (λ b. cond b 1 0) (other_test d f p.0) in omega arith
        ];
        directories = λ f n h k. elim (put_node_cases nodes d y f n h) [
          | inl p ↦ subst (λ w. Counts w n names) (sym p.0) (subst (λ w. is_dir w.kind ≡ true → Counts d w names) p.1 counts k)
          | inr p ↦ t.directories f n p.1 k
        ];
        others = λ f n h k. elim (put_node_cases nodes d y f n h) [
          | inl p ↦ subst (λ w. is_dir w.kind ≡ false → IsOther w) p.1 other k
          | inr p ↦ t.others f n p.1 k
        ];
        paths = λ f. let p = t.paths f in path_long p.0 f p.1;
      }
    where
      fresh : count_of (leads_to d) names + one_of d d ≡ names_due d y
      fresh =
          let a = count_none (leads_to d) names (λ k x h. let l = t.leads k.0 k.1 x h in ne_eqb x.fileid d (known x.fileid l.node l.at)) in
          let b : one_of d d ≡ 1 = ap (λ b. cond b 1 0) (same_test d) in
          omega arith
