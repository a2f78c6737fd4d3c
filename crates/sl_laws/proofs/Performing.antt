-- A call leaves a tree a tree.
use Rattle.std.proofs.Common.{◌≡◌, ℕ, List, Option, Some, None, true, Result, Ok, Err, refl, sym, subst, inl, inr}
use Rattle.std.proofs.lemmas.Cmp.{nat_cmp_total}
use Rattle.std.proofs.lemmas.Map.Lookups.{exact_unsigned}
use Rattle.std.specs.FinMap.{FinMap, get, same_map}
use Rattle.std.specs.Ordering.{nat_cmp}
use Rattle.sl_defs.specs.declared.setup.Time.{Time}
use Rattle.sl_defs.specs.declared.note.Choice.{Choice}
use Rattle.sl_types.specs.declared.kind.Status.{Status}
use Rattle.sl_types.specs.declared.cred.Cred.{Cred}
use Rattle.sl_types.specs.declared.handle.Handle.{Handle}
use Rattle.sl_types.specs.declared.call.Call.{Call}
use Rattle.sl_types.specs.declared.call.Call.TheVariants as call
use Rattle.sl_types.specs.declared.reply.Reply.{Reply}
use Rattle.sl_model.specs.Plan.{Plan, run}
use Rattle.sl_model.specs.Volume.{Volume, sight}
use Rattle.sl_model.specs.Checks.{handle}
use Rattle.sl_model.specs.Looking.{Outcome}
use Rattle.sl_model.specs.Procedures.{with_handle, with_handles, plan, fault, is_reading}
use Rattle.sl_model.specs.Perform.{ends, perform}
use Rattle.sl_model.specs.Tree.{Tree}
use Rattle.sl_model.proofs.Keeping.{reading_keeps}
use Rattle.sl_laws.specs.Laws.{IsFree, PerformKeepsTree, MakingsAloneUseIds}
use Rattle.sl_laws.proofs.Changes.{Ids, Fits, all_stay_used}
use Rattle.sl_laws.proofs.Plans.{step}
use Rattle.sl_laws.proofs.RenameKeeps.{rename_keeps}
use Rattle.sl_laws.proofs.Keeps.{KeepsTree, setattr_keeps, write_keeps, commit_keeps, create_keeps, mkdir_keeps, symlink_keeps, mknod_keeps, remove_keeps, rmdir_keeps, link_keeps}

-- what a call leaves
record Left (v w : Volume) : Type 0 where
  tree : Tree w
  ids : Ids v w
  stays : (g : ℕ) → get v.used g ≡ Some tt → get w.used g ≡ Some tt

same_left : (v : Volume) → Tree v → Left v v
same_left v t = record { tree = t; ids = λ g u. inl u; stays = λ g u. u }

kept_by : (v : Volume) → Tree v → (fault : Status → Reply) (r : Result Outcome Status) → ((o : Outcome) → r ≡ Ok o → Fits v o.changes) → Left v (ends v fault r).0
kept_by v t fault (Ok o) h = let f = h o refl in record { tree = f.tree; ids = f.ids; stays = all_stay_used o.changes v }
kept_by v t fault (Err s) h = same_left v t

by_handle : (v : Volume) (bytes : List ℕ) (f : Handle → Plan Outcome) → ((h : Handle) → KeepsTree v (f h)) → KeepsTree v (with_handle bytes f)
by_handle v bytes f k o e = step (sight v) (handle bytes) _ o (Fits v o.changes) e (λ h is0 e0. k h o e0)

by_handles : (v : Volume) (first second : List ℕ) (f : Handle → Handle → Plan Outcome) → ((a b : Handle) → KeepsTree v (f a b)) → KeepsTree v (with_handles first second f)
by_handles v first second f k o e =
    let s = sight v in
    let P : Type 0 = Fits v o.changes in
    step s (handle first) _ o P e (λ a is0 e0.
    step s (handle second) _ o P e0 (λ b is1 e1. k a b o e1))

-- a call that only asks leaves the very volume
asked : (v : Volume) (c : Call) (cred : Cred) (now : Time) (choice : Choice) → is_reading c ≡ true → Tree v → Left v (perform v c cred now choice).0
asked v c cred now choice r t = subst (λ (w : Volume). Left v w) (sym (reading_keeps v c cred now choice r)) (same_left v t)

acted : (v : Volume) (c : Call) (cred : Cred) (now : Time) (choice : Choice) → Tree v → KeepsTree v (plan c cred now choice) → Left v (perform v c cred now choice).0
unfolding perform
acted v c cred now choice t k = kept_by v t (fault c) (run (sight v) (plan c cred now choice)) k

performed : (v : Volume) (c : Call) (cred : Cred) (now : Time) (choice : Choice) → Tree v → IsFree v choice → Left v (perform v c cred now choice).0
performed v call.Null cred now choice t free = asked v call.Null cred now choice refl t
performed v (call.Getattr object) cred now choice t free = asked v (call.Getattr object) cred now choice refl t
performed v (call.Setattr object attributes guard) cred now choice t free =
    acted v (call.Setattr object attributes guard) cred now choice t (by_handle v object _ (λ h. setattr_keeps v t cred h attributes guard now))
performed v (call.Lookup dir name) cred now choice t free = asked v (call.Lookup dir name) cred now choice refl t
performed v (call.Access object bits) cred now choice t free = asked v (call.Access object bits) cred now choice refl t
performed v (call.Readlink link) cred now choice t free = asked v (call.Readlink link) cred now choice refl t
performed v (call.Read file offset count) cred now choice t free = asked v (call.Read file offset count) cred now choice refl t
performed v (call.Write file offset count stable bytes) cred now choice t free =
    acted v (call.Write file offset count stable bytes) cred now choice t (by_handle v file _ (λ h. write_keeps v t cred h offset count stable bytes now choice))
performed v (call.Create dir name how) cred now choice t free =
    acted v (call.Create dir name how) cred now choice t (by_handle v dir _ (λ h. create_keeps v t cred h name how now choice free))
performed v (call.Mkdir dir name attributes) cred now choice t free =
    acted v (call.Mkdir dir name attributes) cred now choice t (by_handle v dir _ (λ h. mkdir_keeps v t cred h name attributes now choice free))
performed v (call.Symlink dir name attributes path) cred now choice t free =
    acted v (call.Symlink dir name attributes path) cred now choice t (by_handle v dir _ (λ h. symlink_keeps v t cred h name attributes path now choice free))
performed v (call.Mknod dir name w) cred now choice t free =
    acted v (call.Mknod dir name w) cred now choice t (by_handle v dir _ (λ h. mknod_keeps v t cred h name w now choice free))
performed v (call.Remove dir name) cred now choice t free =
    acted v (call.Remove dir name) cred now choice t (by_handle v dir _ (λ h. remove_keeps v t cred h name now))
performed v (call.Rmdir dir name) cred now choice t free =
    acted v (call.Rmdir dir name) cred now choice t (by_handle v dir _ (λ h. rmdir_keeps v t cred h name now))
performed v (call.Rename from name to to_name) cred now choice t free =
    acted v (call.Rename from name to to_name) cred now choice t (by_handles v from to _ (λ a b. rename_keeps v t cred a name b to_name now))
performed v (call.Link file dir name) cred now choice t free =
    acted v (call.Link file dir name) cred now choice t (by_handles v file dir _ (λ h to. link_keeps v t cred h to name now))
performed v (call.Readdir dir cookie verifier count) cred now choice t free = asked v (call.Readdir dir cookie verifier count) cred now choice refl t
performed v (call.Readdirplus dir cookie verifier dircount maxcount) cred now choice t free = asked v (call.Readdirplus dir cookie verifier dircount maxcount) cred now choice refl t
performed v (call.Fsstat object) cred now choice t free = asked v (call.Fsstat object) cred now choice refl t
performed v (call.Fsinfo object) cred now choice t free = asked v (call.Fsinfo object) cred now choice refl t
performed v (call.Pathconf object) cred now choice t free = asked v (call.Pathconf object) cred now choice refl t
performed v (call.Commit file offset count) cred now choice t free = acted v (call.Commit file offset count) cred now choice t (by_handle v file _ (λ h. commit_keeps v t cred h))

pub perform_keeps_tree : PerformKeepsTree
perform_keeps_tree v c cred now choice t free = (performed v c cred now choice t free).tree

-- two sets of fileids with the same ones are the same
same_used : (a b : FinMap nat_cmp (Unit {0})) → ((g : ℕ) → get a g ≡ Some tt → get b g ≡ Some tt) → ((g : ℕ) → get b g ≡ Some tt → get a g ≡ Some tt) → a ≡ b
same_used a b h k = same_map nat_cmp_total exact_unsigned a b (λ g. at (get a g) (get b g) (h g) (k g))
  where
    at : (x y : Option (Unit {0})) → (x ≡ Some tt → y ≡ Some tt) → (y ≡ Some tt → x ≡ Some tt) → x ≡ y
    at None None f g = refl
    at (Some u) (Some w) f g = refl
    at (Some u) None f g = absurd (let e = f refl in cc)
    at None (Some u) f g = absurd (let e = g refl in cc)

pub makings_alone_use_ids : MakingsAloneUseIds
makings_alone_use_ids v c cred now choice t free none =
    let l = performed v c cred now choice t free in
    same_used (perform v c cred now choice).0.used v.used (λ g u. elim (l.ids g u) [ inl a ↦ a | inr b ↦ none g b.0 b.1 ]) l.stays
