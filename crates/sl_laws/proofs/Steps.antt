-- Nodes of one shape: what a tree says of the ones it says of the others.
use Rattle.std.proofs.Common.{◌≡◌, ℕ, zero, suc, ◌≤◌, List, Option, Some, None, Bool, true, false, cond, refl, sym, ap, subst, ◌∙◌, arith, inl, inr}
use Rattle.std.specs.Prelude.{◌⊎◌, ◌≢◌, ◌==◌, ◌&&◌}
use Rattle.std.proofs.lemmas.Bool.{eq-eqb, ne_eqb, cases_eq}
use Rattle.std.proofs.lemmas.Cmp.{nat_cmp_total}
use Rattle.std.proofs.lemmas.Map.Lookups.{exact_unsigned}
use Rattle.std.specs.FinMap.{get, insert}
use Rattle.sl_model.specs.declared.node.Node.{Node}
use Rattle.sl_model.specs.declared.node.Entry.{Entry}
use Rattle.sl_model.specs.Volume.{is_dir}
use Rattle.sl_model.specs.Tree.{Path, stands_in, is_subdirectory, names_due, Nodes, IsHome, Leads, OwnIs, HasRoot}
use Rattle.sl_model.proofs.MapSteps.{get_here, get_else, put_cases}

pub same_node : (m n : Node) → ◌≡◌ {A = Option Node} (Some m) (Some n) → m ≡ n
same_node m n e = cc

-- ---- paths through nodes whose parents stay

-- what the new nodes have at f has the parent that the old ones have
abbrev pub KeepsParents : Nodes → Nodes → Type 0
KeepsParents old new = (f : ℕ) (n : Node) → get old f ≡ Some n → (m : Node) × (get new f ≡ Some m) × (m.parent ≡ n.parent)

abbrev pub KeepsNone : Nodes → Nodes → Type 0
KeepsNone old new = (f : ℕ) → get old f ≡ None → get new f ≡ None

pub path_kept : (old new : Nodes) → KeepsParents old new → KeepsNone old new → (k f : ℕ) → Path old f k → Path new f k
path_kept old new h g zero f (inl e) = inl e
path_kept old new h g zero f (inr e) = inr (g f e)
path_kept old new h g (suc k) f p =
    let b = h f p.1 p.2 in
    (p.0, b.0, b.1, subst (λ x. Path new x k) (sym b.2) (path_kept old new h g k p.1.parent p.3))

-- ---- putting a node in the place of one that is alike

pub put_node_cases : (nodes : Nodes) (d : ℕ) (x : Node) (f : ℕ) (n : Node) → get (insert nodes d x) f ≡ Some n → ((f ≡ d) × (x ≡ n)) ⊎ ((f ≢ d) × (get nodes f ≡ Some n))
put_node_cases nodes d x f n e = put_cases nat_cmp_total exact_unsigned nodes d x f n e

pub at_put : (nodes : Nodes) (d : ℕ) (x : Node) → get (insert nodes d x) d ≡ Some x
at_put nodes d x = get_here nat_cmp_total exact_unsigned nodes d x

pub beside_put : (nodes : Nodes) (d : ℕ) (x : Node) (f : ℕ) → f ≢ d → get (insert nodes d x) f ≡ get nodes f
beside_put nodes d x f ne = get_else nat_cmp_total exact_unsigned nodes d x f ne

-- ---- nodes of the same shape

pub record Alike (x y : Node) : Type 0 where
  pub fileid : y.fileid ≡ x.fileid
  pub fsid : y.fsid ≡ x.fsid
  pub kind : y.kind ≡ x.kind
  pub parent : y.parent ≡ x.parent
  pub made : x.made ≤ y.made

pub alike_self : (x : Node) → Alike x x
alike_self x = record { fileid = refl; fsid = refl; kind = refl; parent = refl; made = omega arith }

pub record SameShape (old new : Nodes) : Type 0 where
  pub on : (f : ℕ) (n : Node) → get old f ≡ Some n → (m : Node) × (get new f ≡ Some m) × Alike n m
  pub back : (f : ℕ) (m : Node) → get new f ≡ Some m → (n : Node) × (get old f ≡ Some n) × Alike n m

pub put_alike : (nodes : Nodes) (d : ℕ) (x y : Node) → get nodes d ≡ Some x → Alike x y → SameShape nodes (insert nodes d y)
put_alike nodes d x y e a = record {
  on = λ f n h. elim (cases_eq f d) [
    | inl p ↦ let s : x ≡ n = same_node x n (sym e ∙ subst (λ z. get nodes z ≡ Some n) p h) in
        (y, subst (λ z. get (insert nodes d y) z ≡ Some y) (sym p) (at_put nodes d y), subst (λ z. Alike z y) s a)
    | inr p ↦ (n, beside_put nodes d y f p ∙ h, alike_self n)
  ];
  back = λ f m h. elim (put_node_cases nodes d y f m h) [
    | inl p ↦ (x, subst (λ z. get nodes z ≡ Some x) (sym p.0) e, subst (λ z. Alike x z) p.1 a)
    | inr p ↦ (m, p.1, alike_self m)
  ];
}

none_or : (nodes : Nodes) (f : ℕ) (o : Option Node) → get nodes f ≡ o → ((n : Node) → get nodes f ≡ Some n → ⊥) → get nodes f ≡ None
none_or nodes f None e h = e
none_or nodes f (Some n) e h = absurd (h n e)

module _ (old new : Nodes) (s : SameShape old new) where
  pub none_kept : KeepsNone old new
  none_kept f e = none_or new f (get new f) refl (λ m h. let b = s.back f m h in let g = b.1 in absurd cc)

  pub paths_alike : (k f : ℕ) → Path old f k → Path new f k
  paths_alike k f p = path_kept old new (λ f n h. let b = s.on f n h in (b.0, b.1, b.2.parent)) none_kept k f p

  pub root_alike : HasRoot old → HasRoot new
  root_alike r =
      let b = s.on 1 r.node r.at in
      record { node = b.0; at = b.1; is_directory = ap is_dir b.2.kind ∙ r.is_directory; parent = b.2.parent ∙ r.parent }

  pub own_alike : (number : ℕ) → ((f : ℕ) (n : Node) → get old f ≡ Some n → OwnIs number f n) → (f : ℕ) (n : Node) → get new f ≡ Some n → OwnIs number f n
  own_alike number own f m h =
      let b = s.back f m h in
      let w = own f b.0 b.1 in
      record { fileid = b.2.fileid ∙ w.fileid; fsid = b.2.fsid ∙ w.fsid }

  pub home_alike : (d : ℕ) (e : Entry) → IsHome d e old → IsHome d e new
  home_alike d e h =
      let b = s.on d h.node h.at in
      let c = h.cookie in
      let g = b.2.made in
      record { node = b.0; at = b.1; is_directory = ap is_dir b.2.kind ∙ h.is_directory; cookie = omega arith }

  pub leads_alike : (d : ℕ) (e : Entry) → Leads d e old → Leads d e new
  leads_alike d e l =
      let b = s.on e.fileid l.node l.at in
      record { node = b.0; at = b.1; same_kind = b.2.kind ∙ l.same_kind; parent = λ t. b.2.parent ∙ l.parent (sym (ap is_dir b.2.kind) ∙ t) }

-- ---- counts after a name goes or comes

pub same_test : (d : ℕ) → (d == d) ≡ true
same_test d = eq-eqb d d refl

pub other_test : (d f : ℕ) → (f ≢ d) → (d == f) ≡ false
other_test d f ne = ne_eqb d f (λ e. ne (sym e))

pub directory_due : (f : ℕ) (x : Node) → is_dir x.kind ≡ true → names_due f x ≡ cond (f == 1) 0 1
directory_due f x t = ap (λ b. cond b (cond (f == 1) 0 1) x.nlink) t

abbrev pub One : Bool → ℕ
One b = cond b 1 0

-- what a count of one directory has to do with a name of another
pub subdirectory_here : (d : ℕ) (m : List ℕ) (e : Entry) → One (is_subdirectory d (d, m) e) ≡ One (is_dir e.kind)
subdirectory_here d m e = ap (λ b. One (b && is_dir e.kind)) (same_test d)

pub subdirectory_else : (d f : ℕ) (m : List ℕ) (e : Entry) → (f ≢ d) → One (is_subdirectory f (d, m) e) ≡ 0
subdirectory_else d f m e ne = ap (λ b. One (b && is_dir e.kind)) (other_test d f ne)

pub entry_here : (d : ℕ) (m : List ℕ) (e : Entry) → One (stands_in d (d, m) e) ≡ 1
entry_here d m e = ap One (same_test d)

pub entry_else : (d f : ℕ) (m : List ℕ) (e : Entry) → (f ≢ d) → One (stands_in f (d, m) e) ≡ 0
entry_else d f m e ne = ap One (other_test d f ne)
