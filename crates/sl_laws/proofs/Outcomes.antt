-- What each outcome leaves is a tree.
use Rattle.std.proofs.Common.{◌≡◌, ℕ, zero, suc, List, [], ◌∷◌, ◌++◌, Option, Some, None, Bool, true, false, cond, refl, sym, ap, subst, ◌∙◌, arith, inl, inr}
use Rattle.std.specs.Prelude.{◌≢◌, ◌==◌, ◌&&◌, not, is_some}
use Rattle.std.specs.List.{AllByRecursion}
use Rattle.std.specs.Option.{unwrap_or}
use Rattle.std.proofs.lemmas.Bool.{ne_eqb}
use Rattle.std.proofs.lemmas.Cmp.{nat_cmp_total}
use Rattle.std.proofs.lemmas.Map.Lookups.{exact_unsigned}
use Rattle.std.specs.FinMap.{get, insert, remove}
use Rattle.sl_defs.specs.declared.setup.Time.{Time}
use Rattle.sl_types.specs.declared.kind.Kind.{Kind}
use Rattle.sl_types.specs.declared.attributes.Sattr.{Sattr}
use Rattle.sl_types.specs.declared.handle.Handle.{Handle}
use Rattle.sl_model.specs.declared.node.Node.{Node}
use Rattle.sl_model.specs.declared.node.Entry.{Entry}
use Rattle.sl_model.specs.Volume.{Volume, Unstable, Change, PutNode, TakeNode, TakeName, PutBytes, AddWrite, is_dir, is_reg}
use Rattle.sl_model.specs.Gathered.{cells_of, cells_after}
use Rattle.sl_model.specs.Looking.{Outcome}
use Rattle.sl_model.specs.Changing.{same_attributes, putting, set_attributes, with_bytes, with_name, without_name, cookie_in, entry_to, making, with_more_links, is_last, dropped, with_fewer_links, unlinking}
use Rattle.sl_model.specs.Tree.{Path, count_of, stands_in, is_subdirectory, Nodes, IsOfFile, IsTree, OwnIs, Tree, one_of, nothing}
use Rattle.sl_model.proofs.MapSteps.{insert_swap, count_none}
use Rattle.sl_laws.specs.Laws.{Climbs}
use Rattle.sl_laws.proofs.Steps.{same_node, beside_put, at_put, directory_due}
use Rattle.sl_laws.proofs.TakeName.{take_name}
use Rattle.sl_laws.proofs.PutName.{put_name}
use Rattle.sl_laws.proofs.NodeSteps.{add_node}
use Rattle.sl_laws.proofs.Views.{kept_self, Like, then_like, view_like, reg_no_dir}
use Rattle.sl_laws.proofs.Links.{due_other, one_here, one_else, put_like, not_the_root, drop_any, raise_link, not_own_parent}
use Rattle.sl_laws.proofs.Climbing.{parents_end_at_root}
use Rattle.sl_laws.proofs.Changes.{IsPlain, Fits, fits_same, IsTreeOf, fits_after}
use Rattle.sl_laws.proofs.Plans.{IsLive, IsSeen, IsDirectory, not_false}

pub like_self : (x : Node) → Like x x
like_self x = record { kept = kept_self x; size = λ s. refl }

-- whichever of two lists the changes are
pub either_changes : (v : Volume) (b : Bool) (cs ds : List Change) → Fits v cs → Fits v ds → Fits v (cond b cs ds)
either_changes v true cs ds h k = h
either_changes v false cs ds h k = k

pub either_outcome : (v : Volume) (b : Bool) (x y : Outcome) → Fits v x.changes → Fits v y.changes → Fits v (cond b x y).changes
either_outcome v true x y h k = h
either_outcome v false x y h k = k

pub size_kept : (size : Option ℕ) (k : Kind) (old : ℕ) → is_some size && not (is_reg k) ≡ false → is_dir k ≡ true → unwrap_or size old ≡ old
size_kept None k old e d = refl
size_kept (Some z) k old e d = let a = reg_no_dir k (not_false (is_reg k) e) in absurd cc

all_more : (nodes : Nodes) (ws : List Unstable) (w : Unstable) → AllByRecursion (IsOfFile nodes) ws → IsOfFile nodes w → AllByRecursion (IsOfFile nodes) (ws ++ w ∷ [])
all_more nodes [] w h e = (e, tt)
all_more nodes (x ∷ ws) w h e = (h.0, all_more nodes ws w h.1 e)

pub dropped_plain : (v : Volume) (n : Node) (now : Time) → get v.used n.fileid ≡ Some tt → IsPlain v (dropped n now)
dropped_plain v n now used = either (is_last n)
  where
    either : (b : Bool) → IsPlain v (cond b (TakeNode n.fileid) (PutNode n.fileid (with_fewer_links n now)))
    either true = used
    either false = tt

climbs_past : (nodes : Nodes) (f : ℕ) (y : Node) → get nodes f ≡ None → (k d : ℕ) → Climbs nodes d k → Path (insert nodes f y) d k
climbs_past nodes f y none zero d p = inl p
climbs_past nodes f y none (suc k) d p =
    (p.0, p.1, beside_put nodes f y d (λ e. let a = ap (get nodes) (sym e) ∙ p.2 in absurd cc) ∙ p.2, climbs_past nodes f y none k p.1.parent p.3)

module _ (v : Volume) (t : Tree v) where
  -- ---- nodes as they are seen

  pub seen_like : (f : ℕ) (n : Node) (s : IsSeen v f n) → Like s.node n
  seen_like f n s =
      let own = (t.tree.own f s.node s.at).fileid in
      subst (λ z. Like s.node z) (sym s.is) (view_like v.nodes s.node v.unstable (ap (get v.nodes) own ∙ s.at) t.unstable)

  pub seen_place : (f : ℕ) (n : Node) (s : IsSeen v f n) → n.fileid ≡ f
  seen_place f n s = (seen_like f n s).kept.alike.fileid ∙ (t.tree.own f s.node s.at).fileid

  pub seen_used : (f : ℕ) (n : Node) (s : IsSeen v f n) → get v.used n.fileid ≡ Some tt
  seen_used f n s = ap (get v.used) (seen_place f n s) ∙ t.used f s.node s.at

  pub seen_kind : (h : Handle) (x n : Node) → IsLive v h x → IsSeen v h.fileid n → n.kind ≡ h.kind
  seen_kind h x n l s = (seen_like h.fileid n s).kept.alike.kind ∙ ap (λ (z : Node). z.kind) (same_node s.node x (sym s.at ∙ l.at)) ∙ l.kind

  tree_put : (f : ℕ) (n : Node) (s : IsSeen v f n) (y : Node) → Like n y → IsTree nothing v.number (insert v.nodes y.fileid y) v.names
  tree_put f n s y l =
      subst (λ z. IsTree nothing v.number (insert v.nodes z y) v.names) (sym (l.kept.alike.fileid ∙ seen_place f n s))
      (put_like nothing v.number v.nodes v.names t.tree f s.node s.at y (then_like s.node n y (seen_like f n s) l))

  -- a node is put that is like the one that was seen
  pub put_kept : (f : ℕ) (n : Node) (s : IsSeen v f n) (y : Node) → Like n y → Fits v (PutNode y.fileid y ∷ [])
  put_kept f n s y l = fits_after v (PutNode y.fileid y ∷ []) (tt, tt) t (tree_put f n s y l)

  pub putting_kept : (f : ℕ) (n : Node) (s : IsSeen v f n) (y : Node) → Like n y → Fits v (putting n y)
  putting_kept f n s y l = either_changes v (same_attributes n y) [] (PutNode y.fileid y ∷ []) (fits_same v t) (put_kept f n s y l)

  pub set_kept : (f : ℕ) (n : Node) (s : IsSeen v f n) (g : Sattr) (now : Time) → is_some g.size && not (is_reg n.kind) ≡ false → Fits v (putting n (set_attributes n g now))
  set_kept f n s g now e = putting_kept f n s (set_attributes n g now) (record {
    kept = record { alike = record { fileid = refl; fsid = refl; kind = refl; parent = refl; made = omega arith }; nlink = refl; entries = refl };
    size = size_kept g.size n.kind n.size e;
  })

  bytes_like : (n : Node) (offset : ℕ) (bytes : List ℕ) (now : Time) → is_dir n.kind ≡ false → Like n (with_bytes n offset bytes now)
  bytes_like n offset bytes now r = record {
    kept = record { alike = record { fileid = refl; fsid = refl; kind = refl; parent = refl; made = omega arith }; nlink = refl; entries = refl };
    size = λ s. absurd (let a = r in cc);
  }

  pub stable_kept : (f : ℕ) (n : Node) (s : IsSeen v f n) (offset : ℕ) (bytes : List ℕ) (now : Time) → is_reg n.kind ≡ true
      → Fits v (PutNode n.fileid (with_bytes n offset bytes now) ∷ PutBytes n.fileid offset bytes ∷ [])
  stable_kept f n s offset bytes now r =
      fits_after v (PutNode n.fileid (with_bytes n offset bytes now) ∷ PutBytes n.fileid offset bytes ∷ []) (tt, (tt, tt)) t
      (tree_put f n s (with_bytes n offset bytes now) (bytes_like n offset bytes now (reg_no_dir n.kind r)))

  pub unstable_kept : (f : ℕ) (n : Node) (s : IsSeen v f n) (w : Unstable) → w.fileid ≡ n.fileid → is_reg n.kind ≡ true → Fits v (AddWrite w ∷ [])
  unstable_kept f n s w e r = record {
    tree = record {
      tree = t.tree;
      used = t.used;
      unstable = all_more v.nodes v.unstable w t.unstable
          (s.node, ap (get v.nodes) (e ∙ seen_place f n s) ∙ s.at, sym (ap is_reg (seen_like f n s).kept.alike.kind) ∙ r);
    };
    ids = λ g u. inl u;
  }

  -- ---- names that are made

  not_live : (f : ℕ) (o : Option Node) → get v.nodes f ≡ o → get v.used f ≡ None → get v.nodes f ≡ None
  not_live f None e u = e
  not_live f (Some n) e u = absurd (let a = t.used f n e in cc)

  module _ (h : Handle) (d : Node) (name : List ℕ) (dir : IsDirectory v h d) where
    pub at_place : get v.nodes d.fileid ≡ Some d
    at_place = ap (get v.nodes) (t.tree.own h.fileid d dir.live.at).fileid ∙ dir.live.at

    -- an object that owes a name gets it, and its node is put last
    named_last : (n : Node) (now : Time) → n.fileid ≢ d.fileid → get v.names (d.fileid, name) ≡ None → (is_dir n.kind ≡ true → n.parent ≡ d.fileid) → IsTree (one_of n.fileid) v.number (insert v.nodes n.fileid n) v.names
        → IsTreeOf nothing v.number (cells_after (making d name n now) (cells_of v))
    named_last n now apart none parent one =
        subst (λ z. IsTree nothing v.number z (insert v.names (d.fileid, name) (entry_to n (cookie_in d))))
        (insert_swap nat_cmp_total exact_unsigned v.nodes n.fileid d.fileid n (with_name d n.kind now) apart)
        (put_name (one_of n.fileid) nothing v.number (insert v.nodes n.fileid n) v.names one d.fileid name (entry_to n (cookie_in d)) d n now none
        (beside_put v.nodes n.fileid n d.fileid (λ e. apart (sym e)) ∙ at_place) dir.is_directory (at_put v.nodes n.fileid n) refl parent refl (λ f. omega arith))

    fresh_apart : (f : ℕ) → get v.nodes f ≡ None → f ≢ d.fileid
    fresh_apart f none q = let a = ap (get v.nodes) q ∙ at_place in cc

    new_own : (y : Node) → y.fsid ≡ d.fsid → OwnIs v.number y.fileid y
    new_own y e = record { fileid = refl; fsid = e ∙ (t.tree.own h.fileid d dir.live.at).fsid }

    -- a new object that is no directory
    pub other_made : (y : Node) (now : Time) → get v.names (d.fileid, name) ≡ None → get v.used y.fileid ≡ None → y.fileid ≢ 0 → y.fsid ≡ d.fsid → is_dir y.kind ≡ false → y.nlink ≡ 1 → y.parent ≡ 0
        → IsTreeOf nothing v.number (cells_after (making d name y now) (cells_of v))
    other_made y now none unused not_zero fsid sort nlink parent =
        let gone = not_live y.fileid (get v.nodes y.fileid) refl unused in
        named_last y now (fresh_apart y.fileid gone) none (λ k. absurd (let a = sort in cc))
        (add_node v.number v.nodes v.names t.tree y.fileid y gone not_zero (new_own y fsid) (due_other y.fileid y sort ∙ nlink)
        (λ k. absurd (let a = sort in cc)) (λ k. record { nlink = omega arith; parent = parent })
        (0, inr (ap (get (insert v.nodes y.fileid y)) parent ∙ beside_put v.nodes y.fileid y 0 (λ z. not_zero (sym z)) ∙ t.tree.no_zero)))

    no_names_in : (f : ℕ) → get v.nodes f ≡ None → (count_of (stands_in f) v.names ≡ 0) × (count_of (is_subdirectory f) v.names ≡ 0)
    no_names_in f gone =
        (count_none (stands_in f) v.names (λ k e g. elsewhere k e g), count_none (is_subdirectory f) v.names (λ k e g. ap (λ b. b && is_dir e.kind) (elsewhere k e g)))
      where
        elsewhere : (k : ℕ × List ℕ) (e : Entry) → get v.names k ≡ Some e → (k.0 == f) ≡ false
        elsewhere k e g = ne_eqb k.0 f (λ q. let a = t.tree.homes k.0 k.1 e g in let b = sym (ap (get v.nodes) q) ∙ a.at in absurd cc)

    -- and a new directory
    pub directory_made : (y : Node) (now : Time) → get v.names (d.fileid, name) ≡ None → get v.used y.fileid ≡ None → y.fileid ≢ 0 → y.fsid ≡ d.fsid → is_dir y.kind ≡ true → y.nlink ≡ 2 → y.entries ≡ 0 → y.size ≡ 0 → y.parent ≡ d.fileid
        → IsTreeOf nothing v.number (cells_after (making d name y now) (cells_of v))
    directory_made y now none unused not_zero fsid sort nlink entries size parent =
        let gone = not_live y.fileid (get v.nodes y.fileid) refl unused in
        let r = t.tree.root in
        let not_root : y.fileid ≢ 1 = λ q. (let a = sym (ap (get v.nodes) q) ∙ gone in let b = r.at in absurd cc) in
        let c = no_names_in y.fileid gone in
        let c0 = c.0 in
        let c1 = c.1 in
        let up = parents_end_at_root v d.fileid d t at_place dir.is_directory in
        named_last y now (fresh_apart y.fileid gone) none (λ k. parent)
        (add_node v.number v.nodes v.names t.tree y.fileid y gone not_zero (new_own y fsid) (directory_due y.fileid y sort ∙ ap (λ b. cond b 0 1) (ne_eqb y.fileid 1 not_root))
        (λ k. record { nlink = omega arith; entries = omega arith; size = omega arith }) (λ k. absurd (let a = sort in cc))
        (up.0, subst (λ z. Path (insert v.nodes y.fileid y) z up.0) (sym parent) (climbs_past v.nodes y.fileid y gone up.0 d.fileid up.2)))

    -- one name more for an object
    pub linked : (n : Node) (f : ℕ) (now : Time) → get v.names (d.fileid, name) ≡ None → is_dir n.kind ≡ false → IsSeen v f n → Fits v (making d name (with_more_links n now) now)
    linked n f now none sort s =
        let kept = (seen_like f n s).kept in
        let same = seen_place f n s in
        let sort' : is_dir s.node.kind ≡ false = sym (ap is_dir kept.alike.kind) ∙ sort in
        let apart : n.fileid ≢ d.fileid = λ q. (let a = dir.is_directory in let b = ap is_dir (ap (λ (z : Node). z.kind) (same_node s.node d (sym s.at ∙ ap (get v.nodes) (sym same ∙ q) ∙ at_place))) in cc) in
        fits_after v (making d name (with_more_links n now) now) (tt, (tt, (tt, tt))) t
        (named_last (with_more_links n now) now apart none (λ k. absurd (let a = sort in cc))
        (subst (λ z. IsTree (one_of z) v.number (insert v.nodes z (with_more_links n now)) v.names) (sym same)
        (raise_link v.number v.nodes v.names f s.node n now s.at sort' kept t.tree)))

    -- ---- names that are taken

    pub unlinked : (e : Entry) (n : Node) (now : Time) → get v.names (d.fileid, name) ≡ Some e → (s : IsSeen v e.fileid n) → (is_dir n.kind ≡ true → n.entries ≡ 0) → Fits v (unlinking d name n now)
    unlinked e n now named s empty =
        let l = t.tree.leads d.fileid name e named in
        let kept = (seen_like e.fileid n s).kept in
        let own = (t.tree.own e.fileid s.node s.at).fileid in
        let same : s.node ≡ l.node = same_node s.node l.node (sym s.at ∙ l.at) in
        let kinds : n.kind ≡ e.kind = kept.alike.kind ∙ ap (λ (z : Node). z.kind) same ∙ l.same_kind in
        let not_root = not_the_root nothing v.number v.nodes v.names t.tree d.fileid name e named in
        let apart : e.fileid ≢ d.fileid = λ q. (
        let is_d : l.node ≡ d = same_node l.node d (sym l.at ∙ ap (get v.nodes) q ∙ at_place) in
        not_own_parent nothing v.number v.nodes v.names t.tree d.fileid d at_place (λ z. not_root (q ∙ z))
        (subst (λ (z : Node). is_dir z.kind ≡ true → z.parent ≡ d.fileid) is_d l.parent dir.is_directory)) in
        let one = subst (λ k. IsTree (one_of e.fileid) v.number (insert v.nodes d.fileid (without_name d k now)) (remove v.names (d.fileid, name))) (sym kinds)
        (take_name nothing (one_of e.fileid) v.number v.nodes v.names t.tree d.fileid name e d now named at_place (λ f. omega arith)) in
        fits_after v (unlinking d name n now) (tt, (tt, (dropped_plain v n now (seen_used e.fileid n s), tt))) t
        (drop_any (one_of e.fileid) nothing v.number (insert v.nodes d.fileid (without_name d n.kind now)) (remove v.names (d.fileid, name)) one e.fileid s.node n now
        (beside_put v.nodes d.fileid (without_name d n.kind now) e.fileid apart ∙ s.at) kept own (one_here e.fileid) refl (one_else e.fileid) not_root
        (λ k. sym kept.entries ∙ empty (ap is_dir kept.alike.kind ∙ k))
        (cells_after (PutNode d.fileid (without_name d n.kind now) ∷ TakeName d.fileid name ∷ []) (cells_of v)) refl refl)
