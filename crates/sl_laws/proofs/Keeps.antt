-- Each procedure keeps the tree.
use Rattle.std.proofs.Common.{◌≡◌, ℕ, ◌+◌, ◌∷◌, List, [], ◌++◌, Option, Some, None, Bool, true, false, cond, Result, Ok, refl, sym, ap, subst, ◌∙◌, length}
use Rattle.std.specs.Prelude.{◌==◌, ◌&&◌, ◌||◌, not, is_some, nat_le, nat_lt, take}
use Rattle.std.proofs.lemmas.Bool.{eqb-true, eqb-false}
use Rattle.std.specs.FinMap.{get}
use Rattle.sl_defs.specs.declared.setup.Time.{Time}
use Rattle.sl_defs.specs.declared.note.Choice.{Choice}
use Rattle.sl_types.specs.declared.kind.Kind.{Kind}
use Rattle.sl_types.specs.declared.kind.Kind.TheVariants as kind
use Rattle.sl_types.specs.declared.kind.Status.{Status}
use Rattle.sl_types.specs.declared.kind.Status.TheVariants.{Exist, IsDir, Inval, FBig, NoSpc, MLink, NotDir, NotEmpty, NameTooLong}
use Rattle.sl_types.specs.declared.attributes.Sattr.{Sattr}
use Rattle.sl_types.specs.declared.call.Stable.{Stable}
use Rattle.sl_types.specs.declared.call.CreateHow.{CreateHow}
use Rattle.sl_types.specs.declared.call.NodeData.{NodeData}
use Rattle.sl_types.specs.declared.call.NodeData.TheVariants as what
use Rattle.sl_types.specs.declared.cred.Cred.{Cred}
use Rattle.sl_types.specs.declared.handle.Handle.{Handle}
use Rattle.sl_model.specs.declared.node.Node.{Node}
use Rattle.sl_model.specs.declared.node.Entry.{Entry}
use Rattle.sl_model.specs.Plan.{Plan, Done, NodeKey, run}
use Rattle.sl_model.specs.Volume.{Volume, PutText, sight, is_dir, is_reg}
use Rattle.sl_model.specs.Checks.{refuse, checked, has_bad_time, live, in_directory, granted, object, directory, see, entry, find, verifier, want, place, is_dots, is_dot, is_dot_dot}
use Rattle.sl_model.specs.Looking.{Outcome, committing, commit}
use Rattle.sl_model.specs.Changing.{guarded, setting, setattr, is_too_big, is_unstable, unstable_write, stable_write, writing, writable, max_size, write_at, write_none, write_in, write, making, absent, has_fileid, given, is_guarded, same_create, new_file, new_node, putting, size_alone, resized, recreating, creating, create_present, create_absent, create_at, create, making_directory, max_links, mkdir, new_link, making_link, symlink, Special, special_of, has_bad_special_time, special_or, new_special, making_special, mknod, removal, remove, directory_removal, rmdir, linking, link}
use Rattle.sl_model.specs.Tree.{Tree}
use Rattle.sl_model.proofs.Alike.{or_false}
use Rattle.sl_laws.specs.Laws.{IsFree}
use Rattle.sl_laws.proofs.Steps.{same_node}
use Rattle.sl_laws.proofs.Changes.{Fits, fits_same, fits_after}
use Rattle.sl_laws.proofs.Plans.{step, answered, looked_up, not_false, refused, IsLive, lived, objected, entered, IsSeen, saw, IsDirectory, directed}
use Rattle.sl_laws.proofs.Outcomes.{like_self, either_outcome, seen_like, seen_kind, put_kept, putting_kept, set_kept, stable_kept, unstable_kept, other_made, directory_made, linked, unlinked}

abbrev pub KeepsTree : Volume → Plan Outcome → Type 0
KeepsTree v p = (o : Outcome) → run (sight v) p ≡ Ok o → Fits v o.changes

pub same_outcome : (v : Volume) (a b : Outcome) → run (sight v) (Done a) ≡ Ok b → Fits v a.changes → Fits v b.changes
same_outcome v a b e t = subst (λ (o : Outcome). Fits v o.changes) (answered (sight v) a b e) t

which : (v : Volume) (b : Bool) (p q : Plan Outcome) → KeepsTree v p → KeepsTree v q → KeepsTree v (cond b p q)
which v true p q h k = h
which v false p q h k = k

was_none : (o : Option Entry) → is_some o ≡ false → o ≡ None
was_none None e = refl
was_none (Some x) e = absurd cc

was_absent : (v : Volume) (h : Handle) (name : List ℕ) (u : Unit {0}) → run (sight v) (absent h name) ≡ Ok u → get v.names (h.fileid, name) ≡ None
unfolding absent
was_absent v h name u e =
    let s = sight v in
    let P : Type 0 = get v.names (h.fileid, name) ≡ None in
    step s (refuse (is_dots name) Exist) _ u P e (λ a is0 e0.
    step s (find h.fileid name) _ u P e0 (λ o is1 e1.
    looked_up v h.fileid name o is1 ∙ was_none o (refused s (is_some o) Exist u e1)))

special_some : (o : Option Special) (v : Volume) (s : Special) → run (sight v) (special_or o) ≡ Ok s → o ≡ Some s
unfolding run
special_some None v s e = absurd cc
special_some (Some x) v s e = ap (λ (z : Special). Some z) (same x s e)
  where
    same : (x s : Special) → ◌≡◌ {A = Result Special Status} (Ok x) (Ok s) → x ≡ s
    same x s e = cc

same_special : (x s : Special) → ◌≡◌ {A = Option Special} (Some x) (Some s) → x ≡ s
same_special x s e = cc

special_kind : (w : NodeData) (s : Special) → special_of w ≡ Some s → is_dir s.kind ≡ false
special_kind (what.Blk x) s e = sym (ap (λ (z : Special). is_dir z.kind) (same_special _ s e))
special_kind (what.Chr x) s e = sym (ap (λ (z : Special). is_dir z.kind) (same_special _ s e))
special_kind (what.Sock x) s e = sym (ap (λ (z : Special). is_dir z.kind) (same_special _ s e))
special_kind (what.Fifo x) s e = sym (ap (λ (z : Special). is_dir z.kind) (same_special _ s e))
special_kind what.Reg s e = absurd cc
special_kind what.Dir s e = absurd cc
special_kind what.Lnk s e = absurd cc

module _ (v : Volume) (t : Tree v) where
  pub setattr_keeps : (cred : Cred) (h : Handle) (a : Sattr) (guard : Option Time) (now : Time) → KeepsTree v (setattr cred h a guard now)
  setattr_keeps cred h a guard now o e =
      let s = sight v in
      let P : Type 0 = Fits v o.changes in
      step s (refuse (has_bad_time a) Inval) _ o P e (λ u0 is0 e0.
      step s (object cred h) _ o P e0 (λ x is1 e1.
      step s (guarded h.fileid guard) _ o P e1 (λ u2 is2 e2.
      step s (refuse (is_some a.size && not (is_reg h.kind)) Inval) _ o P e2 (λ u3 is3 e3.
      step s (refuse (is_too_big a.size) FBig) _ o P e3 (λ u4 is4 e4.
      step s (see h.fileid) _ o P e4 (λ n is5 e5.
      let sn = saw v h.fileid n is5 in
      let kinds = seen_kind v t h x n (objected v cred h x is1) sn in
      same_outcome v (setting n a now) o e5
      (set_kept v t h.fileid n sn a now (ap (λ k. is_some a.size && not (is_reg k)) kinds ∙ refused s _ Inval u3 is3))))))))

  written : (h : Handle) (n : Node) → IsSeen v h.fileid n → is_reg n.kind ≡ true → (offset : ℕ) (bytes : List ℕ) (asked : Stable) (verifier : ℕ) (now : Time) (kept : Bool)
      → Fits v (writing n offset bytes asked verifier now kept).changes
  written h n s r offset bytes asked verifier now kept =
      either_outcome v (is_unstable asked && not kept) (unstable_write n offset bytes verifier now) (stable_write n offset bytes verifier now)
      (unstable_kept v t h.fileid n s (record { fileid = n.fileid; offset = offset; bytes = bytes; moment = now }) refl r)
      (stable_kept v t h.fileid n s offset bytes now r)

  write_at_keeps : (h : Handle) (x : Node) → IsLive v h x → is_reg h.kind ≡ true → (offset count : ℕ) (asked : Stable) (bytes : List ℕ) (now : Time) (choice : Choice) → KeepsTree v (write_at h offset count asked bytes now choice)
  write_at_keeps h x l r offset count asked bytes now choice o e =
      let s = sight v in
      let P : Type 0 = Fits v o.changes in
      step s (refuse (nat_le max_size offset) FBig) _ o P e (λ u0 is0 e0.
      step s (see h.fileid) _ o P e0 (λ n is1 e1.
      step s verifier _ o P e1 (λ c is2 e2.
      let sn = saw v h.fileid n is1 in
      same_outcome v _ o e2 (written h n sn (ap is_reg (seen_kind v t h x n l sn) ∙ r) offset (take (writable offset count) bytes) asked c now choice.kept))))

  write_none_keeps : (h : Handle) (asked : Stable) → KeepsTree v (write_none h asked)
  write_none_keeps h asked o e =
      let s = sight v in
      let P : Type 0 = Fits v o.changes in
      step s (see h.fileid) _ o P e (λ n is0 e0.
      step s verifier _ o P e0 (λ c is1 e1. same_outcome v _ o e1 (fits_same v t)))

  write_in_keeps : (h : Handle) (x : Node) → IsLive v h x → is_reg h.kind ≡ true → (offset count : ℕ) (asked : Stable) (bytes : List ℕ) (now : Time) (choice : Choice) → KeepsTree v (write_in h offset count asked bytes now choice)
  unfolding write_in
  write_in_keeps h x l r offset count asked bytes now choice =
      which v (count == 0) (write_none h asked) (write_at h offset count asked bytes now choice) (write_none_keeps h asked) (write_at_keeps h x l r offset count asked bytes now choice)

  pub write_keeps : (cred : Cred) (h : Handle) (offset count : ℕ) (asked : Stable) (bytes : List ℕ) (now : Time) (choice : Choice) → KeepsTree v (write cred h offset count asked bytes now choice)
  write_keeps cred h offset count asked bytes now choice o e =
      let s = sight v in
      let P : Type 0 = Fits v o.changes in
      step s (object cred h) _ o P e (λ x is0 e0.
      step s (refuse (not (is_reg h.kind) || nat_lt (length bytes) count) Inval) _ o P e0 (λ u1 is1 e1.
      let r = not_false (is_reg h.kind) (or_false (not (is_reg h.kind)) (nat_lt (length bytes) count) (refused s _ Inval u1 is1)).0 in
      write_in_keeps h x (objected v cred h x is0) r offset count asked bytes now choice o e1))

  pub commit_keeps : (cred : Cred) (h : Handle) → KeepsTree v (commit cred h)
  commit_keeps cred h o e =
      let s = sight v in
      let P : Type 0 = Fits v o.changes in
      step s (object cred h) _ o P e (λ x is0 e0.
      step s (refuse (not (is_reg h.kind)) Inval) _ o P e0 (λ u1 is1 e1.
      step s (see h.fileid) _ o P e1 (λ n is2 e2.
      step s verifier _ o P e2 (λ c is3 e3.
      same_outcome v (committing n c) o e3 (put_kept v t h.fileid n (saw v h.fileid n is2) n (like_self n))))))

  -- ---- making

  none_at : (h : Handle) (d : Node) (name : List ℕ) → IsDirectory v h d → get v.names (h.fileid, name) ≡ None → get v.names (d.fileid, name) ≡ None
  none_at h d name dir e = ap (λ f. get v.names (f, name)) (t.tree.own h.fileid d dir.live.at).fileid ∙ e

  created : (h : Handle) (d : Node) (name : List ℕ) → IsDirectory v h d → (how : CreateHow) (cred : Cred) (now : Time) (choice : Choice) → IsFree v choice → get v.names (h.fileid, name) ≡ None
      → KeepsTree v (create_absent d name how cred now choice)
  created h d name dir how cred now choice free none o e =
      let s = sight v in
      let P : Type 0 = Fits v o.changes in
      step s (has_fileid choice) _ o P e (λ u0 is0 e0.
      let not_zero = eqb-false choice.fileid 0 (refused s (choice.fileid == 0) NoSpc u0 is0) in
      let y = new_file how cred d now choice.fileid in
      same_outcome v (creating d name how cred now choice.fileid) o e0
      (fits_after v (making d name y now) (tt, (tt, (tt, tt))) t
      (other_made v t h d name dir y now (none_at h d name dir none) (free not_zero) not_zero refl refl refl refl)))

  resized_kept : (f : ℕ) (n : Node) → IsSeen v f n → is_reg n.kind ≡ true → (how : CreateHow) (now : Time) → Fits v (recreating n how now).changes
  resized_kept f n s r how now = sized (given how).size
    where
      reg : (k : Kind) → is_reg k ≡ true → (size : Option ℕ) → is_some size && not (is_reg k) ≡ false
      reg k r None = refl
      reg k r (Some z) = ap not r

      sized : (size : Option ℕ) → Fits v (putting n (resized n size now))
      sized None = putting_kept v t f n s n (like_self n)
      sized (Some z) = set_kept v t f n s (size_alone (Some z)) now (reg n.kind r (Some z))

  created_again : (h : Handle) (d : Node) (name : List ℕ) → IsDirectory v h d → (how : CreateHow) (now : Time) (x : Entry) → get v.names (h.fileid, name) ≡ Some x → KeepsTree v (create_present x how now)
  created_again h d name dir how now x named o e =
      let s = sight v in
      let P : Type 0 = Fits v o.changes in
      step s (refuse (is_guarded how || not (is_reg x.kind)) Exist) _ o P e (λ u0 is0 e0.
      step s (see x.fileid) _ o P e0 (λ n is1 e1.
      step s (refuse (not (same_create how n)) Exist) _ o P e1 (λ u2 is2 e2.
      let sn = saw v x.fileid n is1 in
      let l = t.tree.leads h.fileid name x named in
      let kinds : n.kind ≡ x.kind = (seen_like v t x.fileid n sn).kept.alike.kind ∙ ap (λ (z : Node). z.kind) (same_node sn.node l.node (sym sn.at ∙ l.at)) ∙ l.same_kind in
      let reg = not_false (is_reg x.kind) ((or_false (is_guarded how) (not (is_reg x.kind)) (refused s _ Exist u0 is0)).1) in
      same_outcome v (recreating n how now) o e2 (resized_kept x.fileid n sn (ap is_reg kinds ∙ reg) how now))))

  create_at_keeps : (h : Handle) (d : Node) (name : List ℕ) → IsDirectory v h d → (how : CreateHow) (cred : Cred) (now : Time) (choice : Choice) → IsFree v choice → (x : Option Entry) → get v.names (h.fileid, name) ≡ x
      → KeepsTree v (create_at d name how cred now choice x)
  unfolding create_at
  create_at_keeps h d name dir how cred now choice free None at = created h d name dir how cred now choice free at
  create_at_keeps h d name dir how cred now choice free (Some x) at = created_again h d name dir how now x at

  pub create_keeps : (cred : Cred) (to : Handle) (name : List ℕ) (how : CreateHow) (now : Time) (choice : Choice) → IsFree v choice → KeepsTree v (create cred to name how now choice)
  create_keeps cred to name how now choice free o e =
      let s = sight v in
      let P : Type 0 = Fits v o.changes in
      step s (checked name) _ o P e (λ u0 is0 e0.
      step s (refuse (has_bad_time (given how)) Inval) _ o P e0 (λ u1 is1 e1.
      step s (want (place to name)) _ o P e1 (λ u2 is2 e2.
      step s (directory cred to) _ o P e2 (λ d is3 e3.
      step s (refuse (is_too_big (given how).size) FBig) _ o P e3 (λ u4 is4 e4.
      step s (refuse (is_dots name) Exist) _ o P e4 (λ u5 is5 e5.
      step s (find to.fileid name) _ o P e5 (λ x is6 e6.
      create_at_keeps to d name (directed v cred to d is3) how cred now choice free x (looked_up v to.fileid name x is6) o e6)))))))

  pub mkdir_keeps : (cred : Cred) (to : Handle) (name : List ℕ) (a : Sattr) (now : Time) (choice : Choice) → IsFree v choice → KeepsTree v (mkdir cred to name a now choice)
  mkdir_keeps cred to name a now choice free o e =
      let s = sight v in
      let P : Type 0 = Fits v o.changes in
      step s (checked name) _ o P e (λ u0 is0 e0.
      step s (refuse (has_bad_time a) Inval) _ o P e0 (λ u1 is1 e1.
      step s (want (place to name)) _ o P e1 (λ u2 is2 e2.
      step s (directory cred to) _ o P e2 (λ d is3 e3.
      step s (absent to name) _ o P e3 (λ u4 is4 e4.
      step s (refuse (nat_le max_links d.nlink) MLink) _ o P e4 (λ u5 is5 e5.
      step s (has_fileid choice) _ o P e5 (λ u6 is6 e6.
      let dir = directed v cred to d is3 in
      let not_zero = eqb-false choice.fileid 0 (refused s (choice.fileid == 0) NoSpc u6 is6) in
      let y = new_node kind.Dir 493 a cred d now choice.fileid in
      same_outcome v (making_directory d name a cred now choice.fileid) o e6
      (fits_after v (making d name y now) (tt, (tt, (tt, tt))) t
      (directory_made v t to d name dir y now (none_at to d name dir (was_absent v to name u4 is4)) (free not_zero) not_zero refl refl refl refl refl refl)))))))))

  pub symlink_keeps : (cred : Cred) (to : Handle) (name : List ℕ) (a : Sattr) (path : List ℕ) (now : Time) (choice : Choice) → IsFree v choice → KeepsTree v (symlink cred to name a path now choice)
  symlink_keeps cred to name a path now choice free o e =
      let s = sight v in
      let P : Type 0 = Fits v o.changes in
      step s (checked name) _ o P e (λ u0 is0 e0.
      step s (refuse (nat_lt 1024 (length path)) NameTooLong) _ o P e0 (λ u1 is1 e1.
      step s (refuse (has_bad_time a) Inval) _ o P e1 (λ u2 is2 e2.
      step s (want (place to name)) _ o P e2 (λ u3 is3 e3.
      step s (directory cred to) _ o P e3 (λ d is4 e4.
      step s (absent to name) _ o P e4 (λ u5 is5 e5.
      step s (has_fileid choice) _ o P e5 (λ u6 is6 e6.
      let dir = directed v cred to d is4 in
      let not_zero = eqb-false choice.fileid 0 (refused s (choice.fileid == 0) NoSpc u6 is6) in
      let y = new_link a cred d path now choice.fileid in
      same_outcome v (making_link d name a cred path now choice.fileid) o e6
      (fits_after v (making d name y now ++ PutText choice.fileid path ∷ []) (tt, (tt, (tt, (tt, tt)))) t
      (other_made v t to d name dir y now (none_at to d name dir (was_absent v to name u5 is5)) (free not_zero) not_zero refl refl refl refl)))))))))

  pub mknod_keeps : (cred : Cred) (to : Handle) (name : List ℕ) (w : NodeData) (now : Time) (choice : Choice) → IsFree v choice → KeepsTree v (mknod cred to name w now choice)
  mknod_keeps cred to name w now choice free o e =
      let s = sight v in
      let P : Type 0 = Fits v o.changes in
      step s (checked name) _ o P e (λ u0 is0 e0.
      step s (refuse (has_bad_special_time (special_of w)) Inval) _ o P e0 (λ u1 is1 e1.
      step s (want (place to name)) _ o P e1 (λ u2 is2 e2.
      step s (directory cred to) _ o P e2 (λ d is3 e3.
      step s (special_or (special_of w)) _ o P e3 (λ z is4 e4.
      step s (absent to name) _ o P e4 (λ u5 is5 e5.
      step s (has_fileid choice) _ o P e5 (λ u6 is6 e6.
      let dir = directed v cred to d is3 in
      let not_zero = eqb-false choice.fileid 0 (refused s (choice.fileid == 0) NoSpc u6 is6) in
      let sort = special_kind w z (special_some (special_of w) v z is4) in
      let y = new_special z cred d now choice.fileid in
      same_outcome v (making_special d name z cred now choice.fileid) o e6
      (fits_after v (making d name y now) (tt, (tt, (tt, tt))) t
      (other_made v t to d name dir y now (none_at to d name dir (was_absent v to name u5 is5)) (free not_zero) not_zero refl sort
      (ap (λ b. 1 + cond b 1 0) sort) (ap (λ b. cond b d.fileid 0) sort))))))))))

  -- ---- names

  pub remove_keeps : (cred : Cred) (h : Handle) (name : List ℕ) (now : Time) → KeepsTree v (remove cred h name now)
  remove_keeps cred h name now o e =
      let s = sight v in
      let P : Type 0 = Fits v o.changes in
      step s (checked name) _ o P e (λ u0 is0 e0.
      step s (want (place h name)) _ o P e0 (λ u1 is1 e1.
      step s (directory cred h) _ o P e1 (λ d is2 e2.
      step s (refuse (is_dots name) Inval) _ o P e2 (λ u3 is3 e3.
      step s (entry h.fileid name) _ o P e3 (λ x is4 e4.
      step s (refuse (is_dir x.kind) IsDir) _ o P e4 (λ u5 is5 e5.
      step s (see x.fileid) _ o P e5 (λ n is6 e6.
      let dir = directed v cred h d is2 in
      let named = entered v h.fileid name x is4 in
      let sn = saw v x.fileid n is6 in
      let l = t.tree.leads h.fileid name x named in
      let kinds : n.kind ≡ x.kind = (seen_like v t x.fileid n sn).kept.alike.kind ∙ ap (λ (z : Node). z.kind) (same_node sn.node l.node (sym sn.at ∙ l.at)) ∙ l.same_kind in
      let sort = refused s (is_dir x.kind) IsDir u5 is5 in
      same_outcome v (removal d name n now) o e6
      (unlinked v t h d name dir x n now (ap (λ f. get v.names (f, name)) (t.tree.own h.fileid d dir.live.at).fileid ∙ named) sn (λ k. absurd (let a = ap is_dir kinds in cc))))))))))

  pub rmdir_keeps : (cred : Cred) (h : Handle) (name : List ℕ) (now : Time) → KeepsTree v (rmdir cred h name now)
  rmdir_keeps cred h name now o e =
      let s = sight v in
      let P : Type 0 = Fits v o.changes in
      step s (checked name) _ o P e (λ u0 is0 e0.
      step s (want (place h name)) _ o P e0 (λ u1 is1 e1.
      step s (directory cred h) _ o P e1 (λ d is2 e2.
      step s (refuse (is_dot name) Inval) _ o P e2 (λ u3 is3 e3.
      step s (refuse (is_dot_dot name) Exist) _ o P e3 (λ u4 is4 e4.
      step s (entry h.fileid name) _ o P e4 (λ x is5 e5.
      step s (refuse (not (is_dir x.kind)) NotDir) _ o P e5 (λ u6 is6 e6.
      step s (see x.fileid) _ o P e6 (λ n is7 e7.
      step s (refuse (not (n.entries == 0)) NotEmpty) _ o P e7 (λ u8 is8 e8.
      let dir = directed v cred h d is2 in
      same_outcome v (directory_removal d name n now) o e8
      (unlinked v t h d name dir x n now (ap (λ f. get v.names (f, name)) (t.tree.own h.fileid d dir.live.at).fileid ∙ entered v h.fileid name x is5) (saw v x.fileid n is7)
      (λ k. eqb-true n.entries 0 (not_false (n.entries == 0) (refused s _ NotEmpty u8 is8)))))))))))))

  pub link_keeps : (cred : Cred) (h to : Handle) (name : List ℕ) (now : Time) → KeepsTree v (link cred h to name now)
  link_keeps cred h to name now o e =
      let s = sight v in
      let P : Type 0 = Fits v o.changes in
      step s (checked name) _ o P e (λ u0 is0 e0.
      step s (want (NodeKey h.fileid ∷ place to name)) _ o P e0 (λ u1 is1 e1.
      step s (live h) _ o P e1 (λ x is2 e2.
      step s (live to) _ o P e2 (λ d is3 e3.
      step s (in_directory to) _ o P e3 (λ u4 is4 e4.
      step s (granted cred x) _ o P e4 (λ u5 is5 e5.
      step s (granted cred d) _ o P e5 (λ u6 is6 e6.
      step s (refuse (is_dir h.kind) Inval) _ o P e6 (λ u7 is7 e7.
      step s (absent to name) _ o P e7 (λ u8 is8 e8.
      step s (refuse (nat_le max_links x.nlink) MLink) _ o P e8 (λ u9 is9 e9.
      step s (see h.fileid) _ o P e9 (λ n is10 e10.
      let l = lived v h x is2 in
      let k = lived v to d is3 in
      let sn = saw v h.fileid n is10 in
      let dir : IsDirectory v to d = record { live = k; is_directory = ap is_dir k.kind ∙ not_false (is_dir to.kind) (refused s _ NotDir u4 is4) } in
      same_outcome v (linking d name n now) o e10
      (linked v t to d name dir n h.fileid now (none_at to d name dir (was_absent v to name u8 is8))
      (ap is_dir (seen_kind v t h x n l sn) ∙ refused s (is_dir h.kind) Inval u7 is7) sn))))))))))))
