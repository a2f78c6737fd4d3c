-- A new volume is a tree.
use Rattle.std.proofs.Common.{◌≡◌, ℕ, ◌+◌, List, Some, Bool, refl, sym, ap, subst, ◌∙◌, arith, inl, inr}
use Rattle.std.proofs.lemmas.Bool.{cases_eq}
use Rattle.std.proofs.lemmas.Cmp.{nat_cmp_total}
use Rattle.std.proofs.lemmas.Map.Lookups.{exact_unsigned}
use Rattle.std.specs.Ordering.{nat_cmp}
use Rattle.std.specs.FinMap.{get, insert, empty, get-empty}
use Rattle.sl_model.specs.declared.node.Node.{Node}
use Rattle.sl_model.specs.declared.node.Entry.{Entry}
use Rattle.sl_model.specs.Volume.{name_cmp, is_dir}
use Rattle.sl_model.specs.Perform.{new_root, fresh}
use Rattle.sl_model.specs.Tree.{count_of, leads_to, stands_in, is_subdirectory, names_due, Nodes, Names, Counts, OwnIs, IsTree, nothing}
use Rattle.sl_model.proofs.MapSteps.{count_none, get_here}
use Rattle.sl_laws.specs.Laws.{FreshIsTree}
use Rattle.sl_laws.proofs.Steps.{put_node_cases, at_put, beside_put}

no_name : (k : ℕ × List ℕ) (e : Entry) → get (empty {X = Entry} {R = name_cmp}) k ≡ Some e → ⊥
no_name k e h = let a = get-empty {X = Entry} name_cmp k in cc

no_node : (f : ℕ) (n : Node) → get (empty {X = Node} {R = nat_cmp}) f ≡ Some n → ⊥
no_node f n h = let a = get-empty {X = Node} nat_cmp f in cc

no_count : (p : ℕ × List ℕ → Entry → Bool) → count_of p empty ≡ 0
no_count p = count_none p empty (λ k x h. absurd (no_name k x h))

abbrev first_nodes : ℕ → Nodes
first_nodes number = insert empty 1 (new_root number)

abbrev first_names : Names
first_names = empty

module _ (number : ℕ) where
  only : (f : ℕ) (n : Node) → get (first_nodes number) f ≡ Some n → (f ≡ 1) × (new_root number ≡ n)
  only f n h = elim (put_node_cases empty 1 (new_root number) f n h) [ inl p ↦ p | inr p ↦ absurd (no_node f n p.1) ]

  first_tree : IsTree nothing number (first_nodes number) first_names
  first_tree = record {
    own = λ f n h. let o = only f n h in subst (λ z. OwnIs number f z) o.1 (record { fileid = sym o.0; fsid = refl });
    root = record { node = new_root number; at = at_put empty 1 (new_root number); is_directory = refl; parent = refl };
    no_zero = beside_put empty 1 (new_root number) 0 (λ e. absurd (omega arith)) ∙ get-empty nat_cmp 0;
    homes = λ d m e h. absurd (no_name (d, m) e h);
    leads = λ d m e h. absurd (no_name (d, m) e h);
    cookies = λ d m k e g h l u. absurd (no_name (d, m) e h);
    named = λ f n h. let o = only f n h in subst (λ z. count_of (leads_to f) first_names + 0 ≡ names_due f z) o.1
        (subst (λ z. count_of (leads_to z) first_names + 0 ≡ names_due z (new_root number)) (sym o.0) (let c = no_count (leads_to 1) in omega arith));
    directories = λ f n h k. let o = only f n h in subst (λ z. Counts f z first_names) o.1
        (let a = no_count (is_subdirectory f) in let b = no_count (stands_in f) in record { nlink = omega arith; entries = omega arith; size = omega arith });
    others = λ f n h k. let o = only f n h in let a = ap (λ (z : Node). is_dir z.kind) o.1 in absurd cc;
    paths = λ f. elim (cases_eq f 1) [
      | inl e ↦ (0, inl e)
      | inr ne ↦ (0, inr (beside_put empty 1 (new_root number) f ne ∙ get-empty nat_cmp f))
    ];
  }

pub fresh_is_tree : FreshIsTree
unfolding fresh
fresh_is_tree number = record {
  tree = first_tree number;
  used = λ f n h. ap (get (insert empty 1 tt)) (only number f n h).0 ∙ get_here nat_cmp_total exact_unsigned empty 1 tt;
  unstable = tt;
}
