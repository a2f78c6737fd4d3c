-- A name goes, and its object owes one.
use Rattle.std.proofs.Common.{◌≡◌, ℕ, ◌+◌, List, Some, true, refl, sym, ap, subst, ◌∙◌, arith, inl, inr}
use Rattle.std.specs.Prelude.{◌≢◌}
use Rattle.std.specs.FinMap.{get, insert, remove}
use Rattle.sl_defs.specs.declared.setup.Time.{Time}
use Rattle.sl_model.specs.declared.node.Node.{Node}
use Rattle.sl_model.specs.declared.node.Entry.{Entry}
use Rattle.sl_model.specs.Volume.{is_dir}
use Rattle.sl_model.specs.Changing.{without_name}
use Rattle.sl_model.specs.Tree.{count_of, leads_to, stands_in, is_subdirectory, names_due, Nodes, Names, Counts, IsTree, one_of}
use Rattle.sl_model.proofs.MapSteps.{name_total, exact_names, take_cases, count_gone}
use Rattle.sl_laws.proofs.Steps.{same_node, put_alike, put_node_cases, none_kept, paths_alike, root_alike, own_alike, home_alike, leads_alike, directory_due, subdirectory_here, subdirectory_else, entry_here, entry_else}

less_counts : (d : ℕ) (m : List ℕ) (e : Entry) (names : Names) (x : Node) (now : Time) → get names (d, m) ≡ Some e → Counts d x names → Counts d (without_name x e.kind now) (remove names (d, m))
less_counts d m e names x now at c =
    let s = count_gone (is_subdirectory d) names (d, m) e at in
    let t = count_gone (stands_in d) names (d, m) e at in
    let p = subdirectory_here d m e in
    let q = entry_here d m e in
    let a = c.nlink in
    let b = c.entries in
    let g = c.size in
    record { nlink = omega arith; entries = omega arith; size = omega arith }

same_counts : (d f : ℕ) (m : List ℕ) (e : Entry) (names : Names) (x : Node) → (f ≢ d) → get names (d, m) ≡ Some e → Counts f x names → Counts f x (remove names (d, m))
same_counts d f m e names x ne at c =
    let s = count_gone (is_subdirectory f) names (d, m) e at in
    let t = count_gone (stands_in f) names (d, m) e at in
    let p = subdirectory_else d f m e ne in
    let q = entry_else d f m e ne in
    let a = c.nlink in
    let b = c.entries in
    record { nlink = omega arith; entries = omega arith; size = c.size }

module _ (owed left : ℕ → ℕ) (number : ℕ) (nodes : Nodes) (names : Names) (t : IsTree owed number nodes names) (d : ℕ) (m : List ℕ) (e : Entry) (x : Node) (now : Time)
    (named : get names (d, m) ≡ Some e) (at : get nodes d ≡ Some x) (owes : (f : ℕ) → left f ≡ owed f + one_of e.fileid f) where
  is_home : is_dir x.kind ≡ true
  is_home = let h = t.homes d m e named in subst (λ (n : Node). is_dir n.kind ≡ true) (same_node h.node x (sym h.at ∙ at)) h.is_directory

  -- the directory d has the name m no more, and the object owes one name more
  pub take_name : IsTree left number (insert nodes d (without_name x e.kind now)) (remove names (d, m))
  take_name =
      let y = without_name x e.kind now in
      let s = put_alike nodes d x y at (record { fileid = refl; fsid = refl; kind = refl; parent = refl; made = omega arith }) in
      let new = insert nodes d y in
      record {
        own = own_alike nodes new s number t.own;
        root = root_alike nodes new s t.root;
        no_zero = none_kept nodes new s 0 t.no_zero;
        homes = λ c k g h. home_alike nodes new s c g (t.homes c k g (take_cases name_total exact_names names (d, m) (c, k) g h).1);
        leads = λ c k g h. leads_alike nodes new s c g (t.leads c k g (take_cases name_total exact_names names (d, m) (c, k) g h).1);
        cookies = λ c k j g i h l. t.cookies c k j g i (take_cases name_total exact_names names (d, m) (c, k) g h).1 (take_cases name_total exact_names names (d, m) (c, j) i l).1;
        named = λ f n h. elim (put_node_cases nodes d y f n h) [
          | inl p ↦ subst (λ z. count_of (leads_to z) (remove names (d, m)) + left z ≡ names_due z n) (sym p.0)
              (subst (λ z. count_of (leads_to d) (remove names (d, m)) + left d ≡ names_due d z) p.1 (counted d x y at (due d x y)))
          | inr p ↦ counted f n n p.1 refl
        ];
        directories = λ f n h k. elim (put_node_cases nodes d y f n h) [
          | inl p ↦ subst (λ z. Counts z n (remove names (d, m))) (sym p.0) (subst (λ z. Counts d z (remove names (d, m))) p.1 (less_counts d m e names x now named (t.directories d x at is_home)))
          | inr p ↦ same_counts d f m e names n p.0 named (t.directories f n p.1 k)
        ];
        others = λ f n h k. elim (put_node_cases nodes d y f n h) [
          | inl p ↦ let a = is_home in let b = ap (λ (z : Node). is_dir z.kind) p.1 in absurd cc
          | inr p ↦ t.others f n p.1 k
        ];
        paths = λ f. let p = t.paths f in (p.0, paths_alike nodes new s p.0 f p.1);
      }
    where
      counted : (f : ℕ) (n z : Node) → get nodes f ≡ Some n → names_due f n ≡ names_due f z → count_of (leads_to f) (remove names (d, m)) + left f ≡ names_due f z
      counted f n z h k = let a = t.named f n h in let b = count_gone (leads_to f) names (d, m) e named in let o = owes f in omega arith

      due : (f : ℕ) (n z : Node) → names_due f x ≡ names_due f (without_name x e.kind now)
      due f n z = directory_due f x is_home ∙ sym (directory_due f (without_name x e.kind now) is_home)
