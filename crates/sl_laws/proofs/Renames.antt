-- What RENAME leaves is a tree.
use Rattle.std.proofs.Common.{◌≡◌, ℕ, suc, ◌+◌, List, [], ◌∷◌, Option, Some, None, Bool, true, false, cond, refl, sym, ap, subst, ◌∙◌, arith, inl, inr}
use Rattle.std.specs.Prelude.{◌≢◌, ◌==◌, ◌&&◌}
use Rattle.std.specs.List.{AllByRecursion}
use Rattle.std.proofs.lemmas.Bool.{cases_eq, eqb-true, eqb-false, eq-eqb, ne_eqb}
use Rattle.std.proofs.lemmas.Cmp.{nat_cmp_total}
use Rattle.std.proofs.lemmas.Map.Lookups.{exact_unsigned}
use Rattle.std.specs.FinMap.{get, insert, remove, len, same_map}
use Rattle.sl_defs.specs.declared.setup.Time.{Time}
use Rattle.sl_model.specs.declared.node.Node.{Node}
use Rattle.sl_model.specs.declared.node.Entry.{Entry}
use Rattle.sl_model.specs.Volume.{Volume, PutNode, TakeNode, is_dir, below_within}
use Rattle.sl_model.specs.Gathered.{VolumeCells, changed_cells, cells_after}
use Rattle.sl_model.specs.Changing.{same_time, same_attributes, putting, moved, with_name, without_name, cookie_in, entry_to, renaming, is_last, with_fewer_links, dropped}
use Rattle.sl_model.specs.Tree.{Path, count_of, leads_to, stands_in, names_due, Nodes, Names, IsTree, Tree, one_of, nothing}
use Rattle.sl_model.proofs.MapSteps.{name_total, exact_names, key_cases, get_here, get_else, gone_here, gone_else, insert_over, count_has}
use Rattle.sl_model.proofs.Paths.{path_bound}
use Rattle.sl_laws.proofs.Steps.{same_node, SameShape, KeepsParents, KeepsNone, path_kept, put_alike, put_node_cases, none_kept, beside_put, at_put, directory_due}
use Rattle.sl_laws.proofs.TakeName.{take_name}
use Rattle.sl_laws.proofs.PutName.{put_name}
use Rattle.sl_laws.proofs.Views.{Like}
use Rattle.sl_laws.proofs.Links.{one_here, one_else, put_like, not_the_root, drop_any, not_own_parent}
use Rattle.sl_laws.proofs.Moves.{off_path, move_node}
use Rattle.sl_laws.proofs.Points.{IsAt, insert_at, put_unless, unless_at, take_or_put, take_or_at, points_commute}
use Rattle.sl_laws.proofs.Changes.{IsPlain, Fits, fits_after}
use Rattle.sl_laws.proofs.Plans.{IsSeen}
use Rattle.sl_laws.proofs.Outcomes.{seen_like, seen_place, seen_used, dropped_plain}

-- ---- maps

none_gone : (names : Names) (j k : ℕ × List ℕ) → get names k ≡ None → get (remove names j) k ≡ None
none_gone names j k e = elim (key_cases name_total exact_names k j) [
  | inl h ↦ subst (λ z. get (remove names j) z ≡ None) (sym h.1) (gone_here name_total exact_names names j)
  | inr h ↦ gone_else name_total exact_names names j k h.1 ∙ e
]

put_removed : (names : Names) (k : ℕ × List ℕ) (x : Entry) → insert (remove names k) k x ≡ insert names k x
put_removed names k x = same_map name_total exact_names (insert (remove names k) k x) (insert names k x) (λ q. elim (key_cases name_total exact_names q k) [
  | inl h ↦ subst (λ z. get (insert (remove names k) k x) z ≡ get (insert names k x) z) (sym h.1) (get_here name_total exact_names (remove names k) k x ∙ sym (get_here name_total exact_names names k x))
  | inr h ↦ get_else name_total exact_names (remove names k) k x q h.1 ∙ gone_else name_total exact_names names k q h.1 ∙ sym (get_else name_total exact_names names k x q h.1)
])

-- what stands at the directory to, after the one from has a name less
at_either : (nodes : Nodes) (f d less : Node) → get nodes d.fileid ≡ Some d → get (insert nodes f.fileid less) d.fileid ≡ Some (cond (f.fileid == d.fileid) less d)
at_either nodes f d less at =
    elim (f.fileid == d.fileid) as (λ b. (f.fileid == d.fileid) ≡ b → get (insert nodes f.fileid less) d.fileid ≡ Some (cond b less d)) [
      | true ↦ λ e. ap (get (insert nodes f.fileid less)) (sym (eqb-true f.fileid d.fileid e)) ∙ at_put nodes f.fileid less
      | false ↦ λ e. beside_put nodes f.fileid less d.fileid (λ q. eqb-false f.fileid d.fileid e (sym q)) ∙ at
    ] refl

either_home : (b : Bool) (x y : Node) → is_dir x.kind ≡ true → is_dir y.kind ≡ true → is_dir (cond b x y).kind ≡ true
either_home true x y p q = p
either_home false x y p q = q

-- nodes of one shape have it still with one more node
under : (old new : Nodes) (k : ℕ) (y : Node) → SameShape old new → KeepsParents (insert old k y) (insert new k y)
under old new k y s f n h = elim (put_node_cases old k y f n h) [
  | inl p ↦ (y, subst (λ z. get (insert new k y) z ≡ Some y) (sym p.0) (at_put new k y), ap (λ (w : Node). w.parent) p.1)
  | inr p ↦ let b = s.on f n p.1 in (b.0, beside_put new k y f p.0 ∙ b.1, b.2.parent)
]

under_none : (old new : Nodes) (k : ℕ) (y : Node) → SameShape old new → KeepsNone (insert old k y) (insert new k y)
under_none old new k y s f h = elim (cases_eq f k) [
  | inl e ↦ absurd (let a = ap (get (insert old k y)) (sym e) ∙ h in let b = at_put old k y in cc)
  | inr ne ↦ beside_put new k y f ne ∙ none_kept old new s f (sym (beside_put old k y f ne) ∙ h)
]

fifth : (a b c d e f : Bool) → (a && (b && (c && (d && (e && f))))) ≡ true → e ≡ true
fifth true true true true true f h = refl
fifth true true true true false f h = absurd cc
fifth true true true false e f h = absurd cc
fifth true true false d e f h = absurd cc
fifth true false c d e f h = absurd cc
fifth false b c d e f h = absurd cc

same_parent : (a b : Node) → same_attributes a b ≡ true → a.parent ≡ b.parent
same_parent a b h = eqb-true a.parent b.parent
    (fifth (a.mode == b.mode) (a.uid == b.uid) (a.gid == b.gid) (a.size == b.size) (a.parent == b.parent) (same_time a.atime b.atime && (same_time a.mtime b.mtime && same_time a.ctime b.ctime)) h)

zero_first : (k : ℕ) → k ≡ 0 + k
zero_first k = omega arith

-- ---- cells

nodes_put : (b : Bool) (x : Node) (c : VolumeCells) → (cells_after (cond b [] (PutNode x.fileid x ∷ [])) c).nodes ≡ put_unless b x.fileid x c.nodes
nodes_put true x c = refl
nodes_put false x c = refl

names_put : (b : Bool) (x : Node) (c : VolumeCells) → (cells_after (cond b [] (PutNode x.fileid x ∷ [])) c).names ≡ c.names
names_put true x c = refl
names_put false x c = refl

plain_put : (v : Volume) (b : Bool) (x : Node) → AllByRecursion (IsPlain v) (cond b [] (PutNode x.fileid x ∷ []))
plain_put v true x = tt
plain_put v false x = (tt, tt)

nodes_drop : (m : Node) (now : Time) (c : VolumeCells) → (changed_cells (dropped m now) c).nodes ≡ take_or_put (is_last m) m.fileid (with_fewer_links m now) c.nodes
nodes_drop m now c = either (is_last m)
  where
    either : (b : Bool) → (changed_cells (cond b (TakeNode m.fileid) (PutNode m.fileid (with_fewer_links m now))) c).nodes ≡ take_or_put b m.fileid (with_fewer_links m now) c.nodes
    either true = refl
    either false = refl

names_drop : (m : Node) (now : Time) (c : VolumeCells) → (changed_cells (dropped m now) c).names ≡ c.names
names_drop m now c = either (is_last m)
  where
    either : (b : Bool) → (changed_cells (cond b (TakeNode m.fileid) (PutNode m.fileid (with_fewer_links m now))) c).names ≡ c.names
    either true = refl
    either false = refl

-- a name leads to another node than its directory
pub home_apart : (v : Volume) → Tree v → (c : ℕ) (k : List ℕ) (e : Entry) → get v.names (c, k) ≡ Some e → e.fileid ≢ c
home_apart v t c k e named q =
    let l = t.tree.leads c k e named in
    let h = t.tree.homes c k e named in
    let same : l.node ≡ h.node = same_node l.node h.node (sym l.at ∙ ap (get v.nodes) q ∙ h.at) in
    not_own_parent nothing v.number v.nodes v.names t.tree c h.node h.at (λ z. not_the_root nothing v.number v.nodes v.names t.tree c k e named (q ∙ z))
    (subst (λ (z : Node). is_dir z.kind ≡ true → z.parent ≡ c) same l.parent h.is_directory)

module _ (v : Volume) (t : Tree v) (f d : Node) (name to_name : List ℕ) (e : Entry) (n : Node) (now : Time)
    (at_f : get v.nodes f.fileid ≡ Some f) (f_dir : is_dir f.kind ≡ true) (at_d : get v.nodes d.fileid ≡ Some d) (d_dir : is_dir d.kind ≡ true)
    (named : get v.names (f.fileid, name) ≡ Some e) (s : IsSeen v e.fileid n)
    (off : is_dir n.kind ≡ true → f.fileid ≢ d.fileid → below_within (suc (len v.nodes)) v.nodes e.fileid d.fileid ≡ false) where
  like : Like s.node n
  like = seen_like v t e.fileid n s

  same : n.fileid ≡ e.fileid
  same = seen_place v t e.fileid n s

  stands : (x : Node) → get v.nodes e.fileid ≡ Some x → s.node ≡ x
  stands x at = same_node s.node x (sym s.at ∙ at)

  kinds : n.kind ≡ e.kind
  kinds = let l = t.tree.leads f.fileid name e named in like.kept.alike.kind ∙ ap (λ (z : Node). z.kind) (stands l.node l.at) ∙ l.same_kind

  not_root : e.fileid ≢ 1
  not_root = not_the_root nothing v.number v.nodes v.names t.tree f.fileid name e named

  up : is_dir n.kind ≡ true → n.parent ≡ f.fileid
  up k =
      let l = t.tree.leads f.fileid name e named in
      like.kept.alike.parent ∙ ap (λ (z : Node). z.parent) (stands l.node l.at) ∙ l.parent (sym (ap (λ (z : Node). is_dir z.kind) (stands l.node l.at)) ∙ sym (ap is_dir like.kept.alike.kind) ∙ k)

  apart_f : e.fileid ≢ f.fileid
  apart_f = home_apart v t f.fileid name e named

  apart_d : e.fileid ≢ d.fileid
  apart_d q = elim (cases_eq f.fileid d.fileid) [
    | inl h ↦ apart_f (q ∙ sym h)
    | inr ne ↦
        let is_d : s.node ≡ d = stands d (ap (get v.nodes) q ∙ at_d) in
        let sort : is_dir n.kind ≡ true = ap is_dir like.kept.alike.kind ∙ ap (λ (z : Node). is_dir z.kind) is_d ∙ d_dir in
        here (d.fileid == e.fileid) (d.fileid == 1) _ (eq-eqb d.fileid e.fileid (sym q)) (off sort ne)
  ]
    where
      here : (b c : Bool) (r : Bool) → b ≡ true → cond b true (cond c false r) ≡ false → ⊥
      here true c r p u = absurd cc
      here false c r p u = absurd cc

  abbrev less : Node
  less = without_name f n.kind now

  abbrev nodes1 : Nodes
  nodes1 = insert v.nodes f.fileid less

  abbrev names1 : Names
  names1 = remove v.names (f.fileid, name)

  abbrev after : Node
  after = moved n d.fileid now

  abbrev middle : Node
  middle = cond (f.fileid == d.fileid) less d

  one : IsTree (one_of e.fileid) v.number nodes1 names1
  one = subst (λ k. IsTree (one_of e.fileid) v.number (insert v.nodes f.fileid (without_name f k now)) names1) (sym kinds)
      (take_name nothing (one_of e.fileid) v.number v.nodes v.names t.tree f.fileid name e f now named at_f (λ g. omega arith))

  at1 : get nodes1 e.fileid ≡ Some s.node
  at1 = beside_put v.nodes f.fileid less e.fileid apart_f ∙ s.at

  moved_kept : after.parent ≡ n.parent → Like s.node after
  moved_kept p =
      let k = like.kept in
      record {
        kept = record { alike = record { fileid = k.alike.fileid; fsid = k.alike.fsid; kind = k.alike.kind; parent = p ∙ k.alike.parent; made = k.alike.made }; nlink = k.nlink; entries = k.entries };
        size = like.size;
      }

  put_same : after.parent ≡ n.parent → IsTree (one_of e.fileid) v.number (insert nodes1 e.fileid after) names1
  put_same p = put_like (one_of e.fileid) v.number nodes1 names1 one e.fileid s.node at1 after (moved_kept p)

  -- the new parent isn't below the directory that moves
  clear_path : is_dir n.kind ≡ true → f.fileid ≢ d.fileid → (k : ℕ) × Path (insert nodes1 e.fileid after) d.fileid k
  clear_path sort ne =
      let p = t.tree.paths d.fileid in
      let b = path_bound p.0 v.nodes d.fileid p.1 in
      let shape = put_alike v.nodes f.fileid f less at_f (record { fileid = refl; fsid = refl; kind = refl; parent = refl; made = omega arith }) in (
        p.0,
        path_kept (insert v.nodes e.fileid after) (insert nodes1 e.fileid after) (under v.nodes nodes1 e.fileid after shape) (under_none v.nodes nodes1 e.fileid after shape) p.0 d.fileid
            (off_path v.nodes e.fileid after p.0 (suc (len v.nodes)) d.fileid (omega arith) p.1 (off sort ne)),
      )

  put_moved : (b : Bool) → is_dir n.kind ≡ b → IsTree (one_of e.fileid) v.number (insert nodes1 e.fileid after) names1
  put_moved false sort = put_same (ap (λ b. cond b d.fileid n.parent) sort)
  put_moved true sort = elim (cases_eq f.fileid d.fileid) [
    | inl q ↦ put_same (ap (λ b. cond b d.fileid n.parent) sort ∙ sym q ∙ sym (up sort))
    | inr ne ↦
        let k = like.kept in
        let sort' : is_dir s.node.kind ≡ true = sym (ap is_dir k.alike.kind) ∙ sort in
        let p = clear_path sort ne in
        let unnamed : count_of (leads_to e.fileid) names1 ≡ 0 = (
        let c = one.named e.fileid s.node at1 in
        let o = one_here e.fileid in
        let u : names_due e.fileid s.node ≡ 1 = directory_due e.fileid s.node sort' ∙ ap (λ b. cond b 0 1) (ne_eqb e.fileid 1 not_root) in
        omega arith) in
        move_node (one_of e.fileid) v.number nodes1 names1 one e.fileid d.fileid s.node after at1 sort' not_root unnamed k.alike.fileid k.alike.fsid k.alike.kind k.nlink k.entries (like.size sort') k.alike.made
        (ap (λ b. cond b d.fileid n.parent) sort) p.0 p.1
  ]

  -- the object at its new place, where its node is put or stays
  record Placed (stays : Bool) : Type 0 where
    node : Node
    at : get (put_unless stays e.fileid after nodes1) e.fileid ≡ Some node
    kind : node.kind ≡ n.kind
    parent : is_dir node.kind ≡ true → node.parent ≡ d.fileid
    tree : IsTree (one_of e.fileid) v.number (put_unless stays e.fileid after nodes1) names1

  placed : (b : Bool) → same_attributes n after ≡ b → Placed b
  placed true q = record {
    node = s.node;
    at = at1;
    kind = sym like.kept.alike.kind;
    parent = λ k. sym like.kept.alike.parent ∙ same_parent n after q ∙ ap (λ b. cond b d.fileid n.parent) (ap is_dir like.kept.alike.kind ∙ k);
    tree = one;
  }
  placed false q = record {
    node = after;
    at = at_put nodes1 e.fileid after;
    kind = refl;
    parent = λ k. ap (λ b. cond b d.fileid n.parent) k;
    tree = put_moved (is_dir n.kind) refl;
  }

  abbrev stays : Bool
  stays = same_attributes n after

  abbrev nodes2 : Nodes
  nodes2 = put_unless stays e.fileid after nodes1

  at_middle : get nodes2 d.fileid ≡ Some middle
  at_middle = (unless_at stays e.fileid after).beside nodes1 d.fileid (λ q. apart_d (sym q)) ∙ at_either v.nodes f d less at_d

  middle_home : is_dir middle.kind ≡ true
  middle_home = either_home (f.fileid == d.fileid) less d f_dir d_dir

  -- no object was at the new name
  pub renamed_free : get v.names (d.fileid, to_name) ≡ None → Fits v (renaming f name d to_name n None now).changes
  renamed_free none =
      let p = placed stays refl in
      let new = entry_to n (cookie_in middle) in
      let with = with_name middle n.kind now in
      let three : IsTree nothing v.number (insert nodes2 d.fileid with) (insert names1 (d.fileid, to_name) new) =
      put_name (one_of e.fileid) nothing v.number nodes2 names1 p.tree d.fileid to_name new middle p.node now (none_gone v.names (f.fileid, name) (d.fileid, to_name) none)
      at_middle middle_home (ap (get nodes2) same ∙ p.at) p.kind p.parent refl (λ g. ap (λ z. one_of z g) (sym same) ∙ zero_first (one_of n.fileid g)) in
      let c : VolumeCells = record { nodes = insert nodes1 d.fileid with; names = insert names1 (d.fileid, to_name) new; texts = v.texts } in
      let order : insert nodes2 d.fileid with ≡ (cells_after (putting n after) c).nodes =
      sym (points_commute e.fileid d.fileid (put_unless stays e.fileid after) (λ m. insert m d.fileid with) apart_d (unless_at stays e.fileid after) (insert_at d.fileid with) nodes1)
      ∙ ap (λ k. put_unless stays k after (insert nodes1 d.fileid with)) (sym same) ∙ sym (nodes_put stays after c) in
      fits_after v (renaming f name d to_name n None now).changes (tt, (tt, (tt, (tt, plain_put v stays after)))) t
      (subst (λ m. IsTree nothing v.number m (cells_after (putting n after) c).names) order (subst (λ m. IsTree nothing v.number (insert nodes2 d.fileid with) m) (sym (names_put stays after c)) three))

  -- an object was at the new name, and loses it
  module _ (g : Entry) (m : Node) (target : get v.names (d.fileid, to_name) ≡ Some g) (other : g.fileid ≢ e.fileid) (sm : IsSeen v g.fileid m) (empty : is_dir m.kind ≡ true → m.entries ≡ 0) where
    like_m : Like sm.node m
    like_m = seen_like v t g.fileid m sm

    same_m : m.fileid ≡ g.fileid
    same_m = seen_place v t g.fileid m sm

    kinds_m : m.kind ≡ g.kind
    kinds_m = let l = t.tree.leads d.fileid to_name g target in like_m.kept.alike.kind ∙ ap (λ (z : Node). z.kind) (same_node sm.node l.node (sym sm.at ∙ l.at)) ∙ l.same_kind

    apart_gd : g.fileid ≢ d.fileid
    apart_gd = home_apart v t d.fileid to_name g target

    -- the directory from has a name, and a target that is a directory has none
    apart_gf : g.fileid ≢ f.fileid
    apart_gf q =
        let is_f : sm.node ≡ f = same_node sm.node f (sym sm.at ∙ ap (get v.nodes) q ∙ at_f) in
        let sort : is_dir m.kind ≡ true = ap is_dir like_m.kept.alike.kind ∙ ap (λ (z : Node). is_dir z.kind) is_f ∙ f_dir in
        let none : f.entries ≡ 0 = sym (ap (λ (z : Node). z.entries) is_f) ∙ sym like_m.kept.entries ∙ empty sort in
        let c = (t.tree.directories f.fileid f at_f f_dir).entries in
        let h = count_has (stands_in f.fileid) v.names (f.fileid, name) e named (eq-eqb f.fileid f.fileid refl) in
        omega arith

    other_key : ◌≢◌ {A = ℕ × List ℕ} (d.fileid, to_name) (f.fileid, name)
    other_key q = other (ap (λ (z : Entry). z.fileid) (same_entry g e (sym target ∙ ap (get v.names) q ∙ named)))
      where
        same_entry : (x y : Entry) → ◌≡◌ {A = Option Entry} (Some x) (Some y) → x ≡ y
        same_entry x y h = cc

    abbrev freed_directory : Node
    freed_directory = without_name middle m.kind now

    abbrev nodes3 : Nodes
    nodes3 = insert nodes2 d.fileid freed_directory

    abbrev names3 : Names
    names3 = remove names1 (d.fileid, to_name)

    abbrev both : ℕ → ℕ
    both q = one_of e.fileid q + one_of g.fileid q

    two : IsTree both v.number nodes3 names3
    two = subst (λ k. IsTree both v.number (insert nodes2 d.fileid (without_name middle k now)) names3) (sym kinds_m)
        (take_name (one_of e.fileid) both v.number nodes2 names1 (placed stays refl).tree d.fileid to_name g middle now
        (gone_else name_total exact_names v.names (f.fileid, name) (d.fileid, to_name) other_key ∙ target) at_middle (λ q. refl))

    at_target : get nodes3 g.fileid ≡ Some sm.node
    at_target =
        beside_put nodes2 d.fileid freed_directory g.fileid apart_gd ∙ (unless_at stays e.fileid after).beside nodes1 g.fileid other
        ∙ beside_put v.nodes f.fileid less g.fileid apart_gf ∙ sm.at

    abbrev drop : Nodes → Nodes
    drop = take_or_put (is_last m) m.fileid (with_fewer_links m now)

    drop_at : IsAt g.fileid drop
    drop_at = subst (λ k. IsAt k drop) same_m (take_or_at (is_last m) m.fileid (with_fewer_links m now))

    three : IsTree (one_of e.fileid) v.number (drop nodes3) names3
    three =
        let c : VolumeCells = record { nodes = nodes3; names = names3; texts = v.texts } in
        subst (λ z. IsTree (one_of e.fileid) v.number z names3) (nodes_drop m now c)
        (subst (λ z. IsTree (one_of e.fileid) v.number (changed_cells (dropped m now) c).nodes z) (names_drop m now c)
        (drop_any both (one_of e.fileid) v.number nodes3 names3 two g.fileid sm.node m now at_target like_m.kept (t.tree.own g.fileid sm.node sm.at).fileid
        (let a = one_else e.fileid g.fileid other in let b = one_here g.fileid in omega arith) (one_else e.fileid g.fileid other)
        (λ q ne. let a = one_else g.fileid q ne in omega arith) (not_the_root nothing v.number v.nodes v.names t.tree d.fileid to_name g target)
        (λ k. sym like_m.kept.entries ∙ empty (ap is_dir like_m.kept.alike.kind ∙ k)) c refl refl))

    pub renamed_over : Fits v (renaming f name d to_name n (Some m) now).changes
    renamed_over =
        let p = placed stays refl in
        let new = entry_to n (cookie_in freed_directory) in
        let with = with_name freed_directory n.kind now in
        let at_into : get (drop nodes3) d.fileid ≡ Some freed_directory = drop_at.beside nodes3 d.fileid (λ q. apart_gd (sym q)) ∙ at_put nodes2 d.fileid freed_directory in
        let at_object : get (drop nodes3) n.fileid ≡ Some p.node = (
        ap (get (drop nodes3)) same ∙ drop_at.beside nodes3 e.fileid (λ q. other (sym q)) ∙ beside_put nodes2 d.fileid freed_directory e.fileid apart_d ∙ p.at) in
        let four : IsTree nothing v.number (insert (drop nodes3) d.fileid with) (insert names3 (d.fileid, to_name) new) =
        put_name (one_of e.fileid) nothing v.number (drop nodes3) names3 three d.fileid to_name new freed_directory p.node now (gone_here name_total exact_names names1 (d.fileid, to_name))
        at_into middle_home at_object p.kind p.parent refl (λ g. ap (λ z. one_of z g) (sym same) ∙ zero_first (one_of n.fileid g)) in
        let c : VolumeCells = record { nodes = insert nodes1 d.fileid with; names = insert names1 (d.fileid, to_name) new; texts = v.texts } in
        let c' = changed_cells (dropped m now) c in
        let place = unless_at stays e.fileid after in
        let order : insert (drop nodes3) d.fileid with ≡ (cells_after (putting n after) c').nodes = (
        sym (points_commute g.fileid d.fileid drop (λ z. insert z d.fileid with) apart_gd drop_at (insert_at d.fileid with) nodes3)
        ∙ ap drop (insert_over nat_cmp_total exact_unsigned nodes2 d.fileid freed_directory with)
        ∙ ap drop (sym (points_commute e.fileid d.fileid (put_unless stays e.fileid after) (λ z. insert z d.fileid with) apart_d place (insert_at d.fileid with) nodes1))
        ∙ points_commute g.fileid e.fileid drop (put_unless stays e.fileid after) other drop_at place (insert nodes1 d.fileid with)
        ∙ ap (put_unless stays e.fileid after) (sym (nodes_drop m now c))
        ∙ ap (λ k. put_unless stays k after c'.nodes) (sym same) ∙ sym (nodes_put stays after c')) in
        let in_names : insert names3 (d.fileid, to_name) new ≡ (cells_after (putting n after) c').names = put_removed names1 (d.fileid, to_name) new ∙ sym (names_drop m now c) ∙ sym (names_put stays after c') in
        fits_after v (renaming f name d to_name n (Some m) now).changes (tt, (tt, (tt, (tt, (dropped_plain v m now (seen_used v t g.fileid m sm), plain_put v stays after))))) t
        (subst (λ z. IsTree nothing v.number z (cells_after (putting n after) c').names) order (subst (λ z. IsTree nothing v.number (insert (drop nodes3) d.fileid with) z) in_names four))
