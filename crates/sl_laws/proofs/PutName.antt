-- A name comes: what was owed is paid.
use Rattle.std.proofs.Common.{◌≡◌, ℕ, ◌+◌, List, Some, None, true, refl, sym, ap, subst, ◌∙◌, arith, inl, inr}
use Rattle.std.specs.Prelude.{◌≢◌}
use Rattle.std.specs.FinMap.{get, insert}
use Rattle.sl_defs.specs.declared.setup.Time.{Time}
use Rattle.sl_model.specs.declared.node.Node.{Node}
use Rattle.sl_model.specs.declared.node.Entry.{Entry}
use Rattle.sl_model.specs.Volume.{is_dir}
use Rattle.sl_model.specs.Changing.{with_name}
use Rattle.sl_model.specs.Tree.{count_of, leads_to, stands_in, is_subdirectory, names_due, Nodes, Names, IsHome, Leads, Counts, IsTree, one_of}
use Rattle.sl_model.proofs.MapSteps.{name_total, exact_names, put_cases, count_new}
use Rattle.sl_laws.proofs.Steps.{same_node, put_alike, put_node_cases, at_put, none_kept, paths_alike, root_alike, own_alike, home_alike, leads_alike, directory_due, subdirectory_here, subdirectory_else, entry_here, entry_else}

more_counts : (d : ℕ) (m : List ℕ) (e : Entry) (names : Names) (x : Node) (now : Time) → get names (d, m) ≡ None → Counts d x names → Counts d (with_name x e.kind now) (insert names (d, m) e)
more_counts d m e names x now none c =
    let s = count_new (is_subdirectory d) names (d, m) e none in
    let t = count_new (stands_in d) names (d, m) e none in
    let p = subdirectory_here d m e in
    let q = entry_here d m e in
    let a = c.nlink in
    let b = c.entries in
    let g = c.size in
    record { nlink = omega arith; entries = omega arith; size = omega arith }

same_counts : (d f : ℕ) (m : List ℕ) (e : Entry) (names : Names) (x : Node) → (f ≢ d) → get names (d, m) ≡ None → Counts f x names → Counts f x (insert names (d, m) e)
same_counts d f m e names x ne none c =
    let s = count_new (is_subdirectory f) names (d, m) e none in
    let t = count_new (stands_in f) names (d, m) e none in
    let p = subdirectory_else d f m e ne in
    let q = entry_else d f m e ne in
    let a = c.nlink in
    let b = c.entries in
    record { nlink = omega arith; entries = omega arith; size = c.size }

same_name : (d : ℕ) (m k : List ℕ) (c : ℕ) → ◌≡◌ {A = ℕ × List ℕ} (c, k) (d, m) → (c ≡ d) × (k ≡ m)
same_name d m k c e = (ap (λ (p : ℕ × List ℕ). p.0) e, ap (λ (p : ℕ × List ℕ). p.1) e)

module _ (owed left : ℕ → ℕ) (number : ℕ) (nodes : Nodes) (names : Names) (t : IsTree owed number nodes names) (d : ℕ) (m : List ℕ) (e : Entry) (x z : Node) (now : Time)
    (none : get names (d, m) ≡ None) (at : get nodes d ≡ Some x) (is_home : is_dir x.kind ≡ true)
    (object : get nodes e.fileid ≡ Some z) (same_kind : z.kind ≡ e.kind) (parent : is_dir z.kind ≡ true → z.parent ≡ d) (cookie : e.cookie ≡ x.made + 3)
    (owes : (f : ℕ) → owed f ≡ left f + one_of e.fileid f) where
  pub put_name : IsTree left number (insert nodes d (with_name x e.kind now)) (insert names (d, m) e)
  put_name =
      let y = with_name x e.kind now in
      let s = put_alike nodes d x y at (record { fileid = refl; fsid = refl; kind = refl; parent = refl; made = omega arith }) in
      let new = insert nodes d y in
      record {
        own = own_alike nodes new s number t.own;
        root = root_alike nodes new s t.root;
        no_zero = none_kept nodes new s 0 t.no_zero;
        homes = λ c k g h. elim (put_cases name_total exact_names names (d, m) e (c, k) g h) [
          | inl p ↦ subst (λ w. IsHome w g new) (sym (same_name d m k c p.0).0) (subst (λ w. IsHome d w new) p.1 (record { node = y; at = at_put nodes d y; is_directory = is_home; cookie = omega arith }))
          | inr p ↦ home_alike nodes new s c g (t.homes c k g p.1)
        ];
        leads = λ c k g h. elim (put_cases name_total exact_names names (d, m) e (c, k) g h) [
          | inl p ↦ subst (λ w. Leads w g new) (sym (same_name d m k c p.0).0) (subst (λ w. Leads d w new) p.1
              (leads_alike nodes new s d e (record { node = z; at = object; same_kind = same_kind; parent = parent })))
          | inr p ↦ leads_alike nodes new s c g (t.leads c k g p.1)
        ];
        cookies = λ c k j g i h l u. elim (put_cases name_total exact_names names (d, m) e (c, k) g h) [
          | inl p ↦ elim (put_cases name_total exact_names names (d, m) e (c, j) i l) [
            | inl q ↦ (same_name d m k c p.0).1 ∙ sym (same_name d m j c q.0).1
            | inr q ↦ absurd (fresh c j i q.1 (same_name d m k c p.0).0 (sym u ∙ sym (ap (λ (w : Entry). w.cookie) p.1)))
          ]
          | inr p ↦ elim (put_cases name_total exact_names names (d, m) e (c, j) i l) [
            | inl q ↦ absurd (fresh c k g p.1 (same_name d m j c q.0).0 (u ∙ sym (ap (λ (w : Entry). w.cookie) q.1)))
            | inr q ↦ t.cookies c k j g i p.1 q.1 u
          ]
        ];
        named = λ f n h. elim (put_node_cases nodes d y f n h) [
          | inl p ↦ subst (λ w. count_of (leads_to w) (insert names (d, m) e) + left w ≡ names_due w n) (sym p.0)
              (subst (λ w. count_of (leads_to d) (insert names (d, m) e) + left d ≡ names_due d w) p.1
              (counted d x y at (directory_due d x is_home ∙ sym (directory_due d (with_name x e.kind now) is_home))))
          | inr p ↦ counted f n n p.1 refl
        ];
        directories = λ f n h k. elim (put_node_cases nodes d y f n h) [
          | inl p ↦ subst (λ w. Counts w n (insert names (d, m) e)) (sym p.0) (subst (λ w. Counts d w (insert names (d, m) e)) p.1 (more_counts d m e names x now none (t.directories d x at is_home)))
          | inr p ↦ same_counts d f m e names n p.0 none (t.directories f n p.1 k)
        ];
        others = λ f n h k. elim (put_node_cases nodes d y f n h) [
          | inl p ↦ let a = is_home in let b = ap (λ (w : Node). is_dir w.kind) p.1 in absurd cc
          | inr p ↦ t.others f n p.1 k
        ];
        paths = λ f. let p = t.paths f in (p.0, paths_alike nodes new s p.0 f p.1);
      }
    where
      counted : (f : ℕ) (n w : Node) → get nodes f ≡ Some n → names_due f n ≡ names_due f w → count_of (leads_to f) (insert names (d, m) e) + left f ≡ names_due f w
      counted f n w h k = let a = t.named f n h in let b = count_new (leads_to f) names (d, m) e none in let o = owes f in omega arith

      -- no name of the directory has the new cookie
      fresh : (c : ℕ) (k : List ℕ) (g : Entry) → get names (c, k) ≡ Some g → c ≡ d → g.cookie ≡ e.cookie → ⊥
      fresh c k g h p u =
          let a = t.homes c k g h in
          let b = a.cookie in
          let q : a.node ≡ x = same_node a.node x (sym a.at ∙ ap (λ w. get nodes w) p ∙ at) in
          let r : a.node.made ≡ x.made = ap (λ (w : Node). w.made) q in
          omega arith
