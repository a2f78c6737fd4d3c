-- What no call is told but to answer it: bytes, and the write verifier.
use Rattle.std.proofs.Common.{◌≡◌, ℕ, suc, List, [], ◌∷◌, Option, Some, None, Bool, true, false, cond, Result, Ok, Err, length, refl, sym, ap, subst, ◌∙◌}
use Rattle.std.specs.Prelude.{◌==◌, ◌||◌, ◌&&◌, not, nat_lt, is_some, take, if◌then◌else◌}
use Rattle.sl_defs.specs.declared.setup.Time.{Time}
use Rattle.sl_defs.specs.declared.note.Choice.{Choice}
use Rattle.sl_types.specs.declared.kind.Status.{Status}
use Rattle.sl_types.specs.declared.kind.Status.TheVariants.{Stale, NotDir, Inval, Acces, NameTooLong, Exist, MLink}
use Rattle.sl_types.specs.declared.call.Stable.{Stable}
use Rattle.sl_types.specs.declared.attributes.Sattr.{Sattr}
use Rattle.sl_types.specs.declared.call.CreateHow.{CreateHow}
use Rattle.sl_types.specs.declared.call.NodeData.{NodeData}
use Rattle.sl_types.specs.declared.cred.Cred.{Cred}
use Rattle.sl_types.specs.declared.handle.Handle.{Handle}
use Rattle.sl_types.specs.Handles.{handle_of}
use Rattle.sl_types.specs.declared.call.Call.{Call}
use Rattle.sl_types.specs.declared.call.Call.TheVariants as call
use Rattle.sl_types.specs.declared.reply.Reply.{Reply}
use Rattle.sl_model.specs.declared.node.Node.{Node}
use Rattle.sl_model.specs.declared.node.Entry.{Entry}
use Rattle.sl_model.specs.declared.node.Listed.{Listed}
use Rattle.sl_model.specs.Plan.{Plan, Done, Stop, Look, See, Find, Climb, Names, Text, Bytes, Verifier, Want, Key, Sight, run, ◌>>=◌}
use Rattle.sl_model.specs.Volume.{is_dir, is_reg}
use Rattle.sl_model.specs.Checks.{refuse, handle_or, handle, checked, checked_both, is_bad, is_of, object_or, live, in_directory, granted, object, directory, node_or, see, entry_or, entry, find, text_of, bytes_of, verifier, is_dot, is_dot_dot, is_dots}
use Rattle.sl_model.specs.Looking.{Outcome, lookup_in, listing, readlink, read, reading, readable, commit, committing}
use Rattle.sl_model.specs.Changing.{setattr, write, create, mkdir, symlink, mknod, remove, rmdir, rename, link, special_of, guarded, write_in, writing, unstable_write, stable_write, is_unstable, writable, absent, create_at, special_or, Special, see_if, climbs, rename_in, is_one, is_bad_target}
use Rattle.sl_model.specs.Procedures.{plan, fault}
use Rattle.sl_model.specs.Gathered.{Gathered, sight_in, node_in, name_in, known, climbed, ended, Climbed, Ends, Wants, wants_node, wants_name, wants_climb, missing, or_next, wanted, effect_from}
use Rattle.sl_laws.specs.Showing.{blank, ShowAlone, OnlyShow, BytesOnlyShow}
use Rattle.sl_laws.proofs.Asking.{AsksNeither, EndAlike, OnlyShows}

then_shows : {A B : Type 0} (R : B → B → Type 0) (p : Plan A) (f : A → Plan B) → AsksNeither p → ((a : A) → OnlyShows R (f a)) → OnlyShows R (p >>= f)
unfolding ◌>>=◌
then_shows R (Done a) f n h = h a
then_shows R (Stop s) f n h = tt
then_shows R (Look x k) f n h = λ o. then_shows R (k o) f (n o) h
then_shows R (See x k) f n h = λ o. then_shows R (k o) f (n o) h
then_shows R (Find d x k) f n h = λ o. then_shows R (k o) f (n o) h
then_shows R (Climb x y k) f n h = λ o. then_shows R (k o) f (n o) h
then_shows R (Names d c k) f n h = λ o. then_shows R (k o) f (n o) h
then_shows R (Text x k) f n h = λ o. then_shows R (k o) f (n o) h
then_shows R (Bytes x a c k) f n h = absurd n
then_shows R (Verifier k) f n h = absurd n
then_shows R (Want ks p) f n h = then_shows R p f n h

then_neither : {A B : Type 0} (p : Plan A) (f : A → Plan B) → AsksNeither p → ((a : A) → AsksNeither (f a)) → AsksNeither (p >>= f)
unfolding ◌>>=◌
then_neither (Done a) f n h = h a
then_neither (Stop s) f n h = tt
then_neither (Look x k) f n h = λ o. then_neither (k o) f (n o) h
then_neither (See x k) f n h = λ o. then_neither (k o) f (n o) h
then_neither (Find d x k) f n h = λ o. then_neither (k o) f (n o) h
then_neither (Climb x y k) f n h = λ o. then_neither (k o) f (n o) h
then_neither (Names d c k) f n h = λ o. then_neither (k o) f (n o) h
then_neither (Text x k) f n h = λ o. then_neither (k o) f (n o) h
then_neither (Bytes x a c k) f n h = absurd n
then_neither (Verifier k) f n h = absurd n
then_neither (Want ks p) f n h = then_neither p f n h

either_shows : {B : Type 0} (R : B → B → Type 0) (b : Bool) (x y : Plan B) → OnlyShows R x → OnlyShows R y → OnlyShows R (if b then x else y)
either_shows R true x y h k = h
either_shows R false x y h k = k

either_neither : {A : Type 0} (b : Bool) (x y : Plan A) → AsksNeither x → AsksNeither y → AsksNeither (if b then x else y)
either_neither true x y h k = h
either_neither false x y h k = k

bytes_show : (f at count : ℕ) (F : List ℕ → Outcome) → ((x y : List ℕ) → ShowAlone (F x) (F y)) → OnlyShows ShowAlone (bytes_of f at count >>= λ x. Done (F x))
unfolding ◌>>=◌
bytes_show f at count F h = λ x y. record { first = F x; second = F y; one = refl; other = refl; alone = h x y }

verifier_shows : (F : ℕ → Outcome) → ((x y : ℕ) → ShowAlone (F x) (F y)) → OnlyShows ShowAlone (verifier >>= λ x. Done (F x))
unfolding ◌>>=◌
verifier_shows F h = λ x y. record { first = F x; second = F y; one = refl; other = refl; alone = h x y }

-- ---- parts of procedures

refuse_neither : (b : Bool) (s : Status) → AsksNeither (refuse b s)
refuse_neither b s = either_neither b (Stop s) (Done tt) tt tt

refuse_shows : {B : Type 0} (R : B → B → Type 0) (b : Bool) (s : Status) (f : Unit {0} → Plan B) → ((u : Unit {0}) → OnlyShows R (f u)) → OnlyShows R (refuse b s >>= f)
refuse_shows R b s f h = then_shows R (refuse b s) f (refuse_neither b s) h

handle_shows : {B : Type 0} (R : B → B → Type 0) (bytes : List ℕ) (f : Handle → Plan B) → ((h : Handle) → OnlyShows R (f h)) → OnlyShows R (handle bytes >>= f)
handle_shows R bytes f k = then_shows R (handle bytes) f (at (handle_of bytes)) k
  where
    at : (o : Option Handle) → AsksNeither (handle_or o)
    at None = tt
    at (Some h) = tt

checked_neither : (name : List ℕ) → AsksNeither (checked name)
unfolding checked
checked_neither name = then_neither (refuse (nat_lt 255 (length name)) NameTooLong) _ (refuse_neither _ _) (λ u. refuse_neither _ _)

both_neither : (a b : List ℕ) → AsksNeither (checked_both a b)
unfolding checked_both
both_neither a b = then_neither (refuse (nat_lt 255 (length a) || nat_lt 255 (length b)) NameTooLong) _ (refuse_neither _ _) (λ u. refuse_neither _ _)

see_neither : (f : ℕ) → AsksNeither (see f)
see_neither f None = tt
see_neither f (Some n) = tt

see_shows : {B : Type 0} (R : B → B → Type 0) (f : ℕ) (k : Node → Plan B) → ((n : Node) → OnlyShows R (k n)) → OnlyShows R (see f >>= k)
see_shows R f k h = then_shows R (see f) k (see_neither f) h

entry_neither : (d : ℕ) (name : List ℕ) → AsksNeither (entry d name)
entry_neither d name None = tt
entry_neither d name (Some e) = tt

entry_shows : {B : Type 0} (R : B → B → Type 0) (d : ℕ) (name : List ℕ) (k : Entry → Plan B) → ((e : Entry) → OnlyShows R (k e)) → OnlyShows R (entry d name >>= k)
entry_shows R d name k h = then_shows R (entry d name) k (entry_neither d name) h

find_shows : {B : Type 0} (R : B → B → Type 0) (d : ℕ) (name : List ℕ) (k : Option Entry → Plan B) → ((o : Option Entry) → OnlyShows R (k o)) → OnlyShows R (find d name >>= k)
find_shows R d name k h = then_shows R (find d name) k (λ o. tt) h

text_shows : {B : Type 0} (R : B → B → Type 0) (f : ℕ) (k : List ℕ → Plan B) → ((text : List ℕ) → OnlyShows R (k text)) → OnlyShows R (text_of f >>= k)
text_shows R f k h = then_shows R (text_of f) k (λ o. tt) h

live_neither : (h : Handle) → AsksNeither (live h)
live_neither h None = tt
live_neither h (Some n) = either_neither (is_of h n) (Done n) (Stop Stale) tt tt

granting_neither : (cred : Cred) (n : Node) → AsksNeither (granted cred n >>= λ u. Done n)
unfolding ◌>>=◌
granting_neither cred n = tt

object_shows : {B : Type 0} (R : B → B → Type 0) (cred : Cred) (h : Handle) (f : Node → Plan B) → ((n : Node) → OnlyShows R (f n)) → OnlyShows R (object cred h >>= f)
object_shows R cred h f k = then_shows R (object cred h) f (then_neither (live h) _ (live_neither h) (granting_neither cred)) k

directory_neither : (cred : Cred) (h : Handle) → AsksNeither (directory cred h)
directory_neither cred h = then_neither (live h) _ (live_neither h) (λ n. then_neither (in_directory h) _ (refuse_neither (not (is_dir h.kind)) NotDir) (λ u. granting_neither cred n))

directory_shows : {B : Type 0} (R : B → B → Type 0) (cred : Cred) (h : Handle) (f : Node → Plan B) → ((n : Node) → OnlyShows R (f n)) → OnlyShows R (directory cred h >>= f)
directory_shows R cred h f k = then_shows R (directory cred h) f (directory_neither cred h) k

absent_neither : (h : Handle) (name : List ℕ) → AsksNeither (absent h name)
unfolding absent
absent_neither h name = then_neither (refuse (is_dots name) Exist) _ (refuse_neither _ _) (λ u. then_neither _ _ (λ o. tt) (λ o. refuse_neither (is_some o) Exist))

guarded_neither : (f : ℕ) (t : Option Time) → AsksNeither (guarded f t)
unfolding guarded
guarded_neither f None = tt
guarded_neither f (Some t) = then_neither (see f) _ (see_neither f) (λ n. refuse_neither _ _)

special_neither : (o : Option Special) → AsksNeither (special_or o)
special_neither None = tt
special_neither (Some s) = tt

see_if_neither : (o : Option Entry) → AsksNeither (see_if o)
unfolding see_if
see_if_neither None = tt
see_if_neither (Some e) = then_neither (see e.fileid) _ (see_neither e.fileid) (λ n. tt)

climbs_neither : (b : Bool) (a d : ℕ) → AsksNeither (climbs b a d)
unfolding climbs
climbs_neither true a d = λ o. tt
climbs_neither false a d = tt

done_shows : {A B : Type 0} (R : B → B → Type 0) (a : A) (f : A → Plan B) → OnlyShows R (f a) → OnlyShows R (Done a >>= f)
unfolding ◌>>=◌
done_shows R a f h = h

-- ---- the procedures

lookup_in_shows : (h : Handle) (d : Node) (name : List ℕ) → OnlyShows ShowAlone (lookup_in h d name)
unfolding lookup_in
lookup_in_shows h d name = either_shows ShowAlone (is_dot name) _ _ tt (either_shows ShowAlone (is_dot_dot name) _ _ tt (entry_shows ShowAlone h.fileid name _ (λ e. see_shows ShowAlone e.fileid _ (λ n. tt))))

writing_alone : (b : Bool) (n : Node) (offset : ℕ) (bytes : List ℕ) (now : Time) (x y : ℕ)
    → ShowAlone (cond b (unstable_write n offset bytes x now) (stable_write n offset bytes x now)) (cond b (unstable_write n offset bytes y now) (stable_write n offset bytes y now))
writing_alone true n offset bytes now x y = record { changes = refl; answer = refl }
writing_alone false n offset bytes now x y = record { changes = refl; answer = refl }

write_in_shows : (h : Handle) (offset count : ℕ) (asked : Stable) (bytes : List ℕ) (now : Time) (choice : Choice) → OnlyShows ShowAlone (write_in h offset count asked bytes now choice)
unfolding write_in
write_in_shows h offset count asked bytes now choice = either_shows ShowAlone (count == 0) _ _
    (see_shows ShowAlone h.fileid _ (λ n. verifier_shows _ (λ x y. record { changes = refl; answer = refl })))
    (refuse_shows ShowAlone _ _ _ (λ u. see_shows ShowAlone h.fileid _ (λ n. verifier_shows _ (λ x y. writing_alone (is_unstable asked && not choice.kept) n offset (take (writable offset count) bytes) now x y))))

create_at_shows : (d : Node) (name : List ℕ) (how : CreateHow) (cred : Cred) (now : Time) (choice : Choice) (o : Option Entry) → OnlyShows ShowAlone (create_at d name how cred now choice o)
unfolding create_at
create_at_shows d name how cred now choice None = refuse_shows ShowAlone _ _ _ (λ u. tt)
create_at_shows d name how cred now choice (Some e) = refuse_shows ShowAlone _ _ _ (λ u. see_shows ShowAlone e.fileid _ (λ n. refuse_shows ShowAlone _ _ _ (λ u. tt)))

rename_in_shows : (from : Node) (name : List ℕ) (to : Node) (to_name : List ℕ) (e : Entry) (o : Option Entry) (now : Time) → OnlyShows ShowAlone (rename_in from name to to_name e o now)
unfolding rename_in
rename_in_shows from name to to_name e o now = either_shows ShowAlone (is_one e o) _ _ tt
    (then_shows ShowAlone _ _ (climbs_neither _ e.fileid to.fileid) (λ b. refuse_shows ShowAlone b Inval _ (λ u. see_shows ShowAlone e.fileid _ (λ n. then_shows ShowAlone _ _ (see_if_neither o)
    (λ t. refuse_shows ShowAlone _ Exist _ (λ w. refuse_shows ShowAlone _ MLink _ (λ x. tt)))))))

listing_neither : (cred : Cred) (h : Handle) (cookie since fixed count : ℕ) → AsksNeither (listing cred h cookie since fixed count)
listing_neither cred h cookie since fixed count = then_neither _ _ (directory_neither cred h)
    (λ d. then_neither _ _ (refuse_neither _ _) (λ u. then_neither _ _ (λ o. tt) (λ names. then_neither _ _ (refuse_neither _ _) (λ w. tt))))

setattr_shows : (cred : Cred) (h : Handle) (s : Sattr) (guard : Option Time) (now : Time) → OnlyShows ShowAlone (setattr cred h s guard now)
setattr_shows cred h s guard now = refuse_shows ShowAlone _ _ _ (λ u. object_shows ShowAlone cred h _ (λ n. then_shows ShowAlone _ _ (guarded_neither h.fileid guard) (λ w. refuse_shows ShowAlone _ _ _ (λ x. refuse_shows ShowAlone _ _ _ (λ y. see_shows ShowAlone h.fileid _ (λ m. tt))))))

readlink_shows : (cred : Cred) (h : Handle) → OnlyShows ShowAlone (readlink cred h)
readlink_shows cred h = object_shows ShowAlone cred h _ (λ n. refuse_shows ShowAlone _ _ _ (λ u. text_shows ShowAlone h.fileid _ (λ o. tt)))

read_shows : (cred : Cred) (h : Handle) (offset count : ℕ) → OnlyShows ShowAlone (read cred h offset count)
read_shows cred h offset count = object_shows ShowAlone cred h _ (λ n. refuse_shows ShowAlone _ _ _ (λ u. see_shows ShowAlone h.fileid _ (λ m.
    bytes_show h.fileid offset (readable m offset count) (λ x. reading m offset count x) (λ x y. record { changes = refl; answer = refl }))))

write_shows : (cred : Cred) (h : Handle) (offset count : ℕ) (asked : Stable) (bytes : List ℕ) (now : Time) (choice : Choice) → OnlyShows ShowAlone (write cred h offset count asked bytes now choice)
write_shows cred h offset count asked bytes now choice = object_shows ShowAlone cred h _ (λ n. refuse_shows ShowAlone _ _ _ (λ u. write_in_shows h offset count asked bytes now choice))

create_shows : (cred : Cred) (to : Handle) (name : List ℕ) (h : CreateHow) (now : Time) (choice : Choice) → OnlyShows ShowAlone (create cred to name h now choice)
create_shows cred to name h now choice = then_shows ShowAlone _ _ (checked_neither name) (λ u. refuse_shows ShowAlone _ _ _ (λ w. then_shows ShowAlone _ _ tt (λ x. directory_shows ShowAlone cred to _ (λ d.
    refuse_shows ShowAlone _ _ _ (λ y. refuse_shows ShowAlone _ _ _ (λ z. find_shows ShowAlone to.fileid name _ (λ o. create_at_shows d name h cred now choice o)))))))

mkdir_shows : (cred : Cred) (to : Handle) (name : List ℕ) (s : Sattr) (now : Time) (choice : Choice) → OnlyShows ShowAlone (mkdir cred to name s now choice)
mkdir_shows cred to name s now choice = then_shows ShowAlone _ _ (checked_neither name) (λ u. refuse_shows ShowAlone _ _ _ (λ w. then_shows ShowAlone _ _ tt (λ x. directory_shows ShowAlone cred to _ (λ d.
    then_shows ShowAlone _ _ (absent_neither to name) (λ y. refuse_shows ShowAlone _ _ _ (λ z. refuse_shows ShowAlone _ _ _ (λ q. tt)))))))

symlink_shows : (cred : Cred) (to : Handle) (name : List ℕ) (s : Sattr) (path : List ℕ) (now : Time) (choice : Choice) → OnlyShows ShowAlone (symlink cred to name s path now choice)
symlink_shows cred to name s path now choice = then_shows ShowAlone _ _ (checked_neither name) (λ u. refuse_shows ShowAlone _ _ _ (λ v. refuse_shows ShowAlone _ _ _ (λ w. then_shows ShowAlone _ _ tt (λ x. directory_shows ShowAlone cred to _ (λ d.
    then_shows ShowAlone _ _ (absent_neither to name) (λ y. refuse_shows ShowAlone _ _ _ (λ q. tt)))))))

mknod_shows : (cred : Cred) (to : Handle) (name : List ℕ) (what : NodeData) (now : Time) (choice : Choice) → OnlyShows ShowAlone (mknod cred to name what now choice)
mknod_shows cred to name what now choice = then_shows ShowAlone _ _ (checked_neither name) (λ u. refuse_shows ShowAlone _ _ _ (λ w. then_shows ShowAlone _ _ tt (λ x. directory_shows ShowAlone cred to _ (λ d.
    then_shows ShowAlone _ _ (special_neither (special_of what)) (λ s. then_shows ShowAlone _ _ (absent_neither to name) (λ y. refuse_shows ShowAlone _ _ _ (λ q. tt)))))))

remove_shows : (cred : Cred) (h : Handle) (name : List ℕ) (now : Time) → OnlyShows ShowAlone (remove cred h name now)
remove_shows cred h name now = then_shows ShowAlone _ _ (checked_neither name) (λ u. then_shows ShowAlone _ _ tt (λ x. directory_shows ShowAlone cred h _ (λ d.
    refuse_shows ShowAlone _ _ _ (λ y. entry_shows ShowAlone h.fileid name _ (λ e. refuse_shows ShowAlone _ _ _ (λ z. see_shows ShowAlone e.fileid _ (λ n. tt)))))))

rmdir_shows : (cred : Cred) (h : Handle) (name : List ℕ) (now : Time) → OnlyShows ShowAlone (rmdir cred h name now)
rmdir_shows cred h name now = then_shows ShowAlone _ _ (checked_neither name) (λ u. then_shows ShowAlone _ _ tt (λ x. directory_shows ShowAlone cred h _ (λ d. refuse_shows ShowAlone _ _ _ (λ v.
    refuse_shows ShowAlone _ _ _ (λ y. entry_shows ShowAlone h.fileid name _ (λ e. refuse_shows ShowAlone _ _ _ (λ z. see_shows ShowAlone e.fileid _ (λ n. refuse_shows ShowAlone _ _ _ (λ q. tt)))))))))

rename_shows : (cred : Cred) (a : Handle) (name : List ℕ) (b : Handle) (to_name : List ℕ) (now : Time) → OnlyShows ShowAlone (rename cred a name b to_name now)
rename_shows cred a name b to_name now = then_shows ShowAlone _ _ (both_neither name to_name) (λ u. then_shows ShowAlone _ _ tt (λ w.
    then_shows ShowAlone (live a) _ (live_neither a) (λ f. then_shows ShowAlone (live b) _ (live_neither b) (λ d. refuse_shows ShowAlone _ _ _ (λ x. refuse_shows ShowAlone _ _ _ (λ y.
    done_shows ShowAlone tt _ (done_shows ShowAlone tt _ (refuse_shows ShowAlone _ _ _ (λ z. entry_shows ShowAlone a.fileid name _ (λ e. find_shows ShowAlone b.fileid to_name _ (λ o. rename_in_shows f name d to_name e o now)))))))))))

link_shows : (cred : Cred) (h to : Handle) (name : List ℕ) (now : Time) → OnlyShows ShowAlone (link cred h to name now)
link_shows cred h to name now = then_shows ShowAlone _ _ (checked_neither name) (λ u. then_shows ShowAlone _ _ tt (λ w.
    then_shows ShowAlone (live h) _ (live_neither h) (λ o. then_shows ShowAlone (live to) _ (live_neither to) (λ d. refuse_shows ShowAlone _ _ _ (λ x. done_shows ShowAlone tt _ (done_shows ShowAlone tt _
    (refuse_shows ShowAlone _ _ _ (λ y. then_shows ShowAlone _ _ (absent_neither to name) (λ z. refuse_shows ShowAlone _ _ _ (λ q. see_shows ShowAlone h.fileid _ (λ n. tt)))))))))))

commit_shows : (cred : Cred) (h : Handle) → OnlyShows ShowAlone (commit cred h)
commit_shows cred h = object_shows ShowAlone cred h _ (λ n. refuse_shows ShowAlone _ _ _ (λ u. see_shows ShowAlone h.fileid _ (λ m.
    verifier_shows (λ x. committing m x) (λ x y. record { changes = refl; answer = refl }))))

calls_show : (c : Call) (cred : Cred) (now : Time) (choice : Choice) → OnlyShows ShowAlone (plan c cred now choice)
calls_show call.Null cred now choice = tt
calls_show (call.Getattr file) cred now choice = handle_shows ShowAlone file _ (λ h. object_shows ShowAlone cred h _ (λ u. see_shows ShowAlone h.fileid _ (λ n. tt)))
calls_show (call.Setattr file attributes guard) cred now choice = handle_shows ShowAlone file _ (λ h. setattr_shows cred h attributes guard now)
calls_show (call.Lookup dir name) cred now choice = handle_shows ShowAlone dir _ (λ h. then_shows ShowAlone _ _ (checked_neither name) (λ u. then_shows ShowAlone _ _ tt (λ w. directory_shows ShowAlone cred h _ (λ d. lookup_in_shows h d name))))
calls_show (call.Access file bits) cred now choice = handle_shows ShowAlone file _ (λ h. object_shows ShowAlone cred h _ (λ u. see_shows ShowAlone h.fileid _ (λ n. tt)))
calls_show (call.Readlink file) cred now choice = handle_shows ShowAlone file _ (λ h. readlink_shows cred h)
calls_show (call.Read file offset count) cred now choice = handle_shows ShowAlone file _ (λ h. read_shows cred h offset count)
calls_show (call.Write file offset count asked bytes) cred now choice = handle_shows ShowAlone file _ (λ h. write_shows cred h offset count asked bytes now choice)
calls_show (call.Create dir name how) cred now choice = handle_shows ShowAlone dir _ (λ h. create_shows cred h name how now choice)
calls_show (call.Mkdir dir name attributes) cred now choice = handle_shows ShowAlone dir _ (λ h. mkdir_shows cred h name attributes now choice)
calls_show (call.Symlink dir name attributes path) cred now choice = handle_shows ShowAlone dir _ (λ h. symlink_shows cred h name attributes path now choice)
calls_show (call.Mknod dir name what) cred now choice = handle_shows ShowAlone dir _ (λ h. mknod_shows cred h name what now choice)
calls_show (call.Remove dir name) cred now choice = handle_shows ShowAlone dir _ (λ h. remove_shows cred h name now)
calls_show (call.Rmdir dir name) cred now choice = handle_shows ShowAlone dir _ (λ h. rmdir_shows cred h name now)
calls_show (call.Rename from name to to_name) cred now choice = handle_shows ShowAlone from _ (λ a. handle_shows ShowAlone to _ (λ b. rename_shows cred a name b to_name now))
calls_show (call.Link file dir name) cred now choice = handle_shows ShowAlone file _ (λ h. handle_shows ShowAlone dir _ (λ to. link_shows cred h to name now))
calls_show (call.Readdir dir cookie since count) cred now choice = handle_shows ShowAlone dir _ (λ h. then_shows ShowAlone _ _ (listing_neither cred h cookie since 24 count) (λ l. tt))
calls_show (call.Readdirplus dir cookie since dircount maxcount) cred now choice = handle_shows ShowAlone dir _ (λ h. then_shows ShowAlone _ _ (listing_neither cred h cookie since 68 maxcount) (λ l. tt))
calls_show (call.Fsstat file) cred now choice = handle_shows ShowAlone file _ (λ h. object_shows ShowAlone cred h _ (λ u. tt))
calls_show (call.Fsinfo file) cred now choice = handle_shows ShowAlone file _ (λ h. object_shows ShowAlone cred h _ (λ u. tt))
calls_show (call.Pathconf file) cred now choice = handle_shows ShowAlone file _ (λ h. object_shows ShowAlone cred h _ (λ u. tt))
calls_show (call.Commit file offset count) cred now choice = handle_shows ShowAlone file _ (λ h. commit_shows cred h)

-- ---- the two ends

abbrev Alone : Result Outcome Status → Result Outcome Status → Type 0
Alone (Ok a) (Ok b) = ShowAlone a b
Alone (Err s) (Err t) = s ≡ t
Alone _ _ = ⊥

wants_one : (f : ℕ) (W X : Option Node → List Key) → ((o : Option Node) → W o ≡ X o) → (x : Option (Option Node)) → wants_node f W x ≡ wants_node f X x
wants_one f W X h None = refl
wants_one f W X h (Some o) = h o

wants_named : (d : ℕ) (name : List ℕ) (W X : Option Entry → List Key) → ((o : Option Entry) → W o ≡ X o) → (x : Option (Option Entry)) → wants_name d name W x ≡ wants_name d name X x
wants_named d name W X h None = refl
wants_named d name W X h (Some o) = h o

wants_climbed : (W X : Bool → List Key) → ((b : Bool) → W b ≡ X b) → (c : Climbed) → wants_climb W c ≡ wants_climb X c
wants_climbed W X h (Wants f) = refl
wants_climbed W X h (Ends b) = h b

module _ (g : Gathered) (bytes : ℕ → ℕ → ℕ → List ℕ) (verifier : ℕ) where
  abbrev told : Gathered
  told = record g { bytes = bytes; verifier = verifier }

  ends_alone : (p q : Plan Outcome) → EndAlike ShowAlone p q → Alone (run (sight_in g) p) (run (sight_in told) q)
  unfolding run
  ends_alone p q e = subst (λ z. Alone (run (sight_in g) z) (run (sight_in told) q)) (sym e.one) (subst (λ z. Alone (Ok e.first) (run (sight_in told) z)) (sym e.other) e.alone)

  ends_want : (p q : Plan Outcome) → EndAlike ShowAlone p q → wanted g p ≡ wanted told q
  ends_want p q e = ap (wanted g) e.one ∙ sym (ap (wanted told) e.other)

  shows_alone : (p : Plan Outcome) → OnlyShows ShowAlone p → Alone (run (sight_in g) p) (run (sight_in told) p)
  unfolding run
  shows_alone (Done a) h = record { changes = refl; answer = refl }
  shows_alone (Stop s) h = refl
  shows_alone (Look f k) h = shows_alone (k (known (node_in g.cells f))) (h (known (node_in g.cells f)))
  shows_alone (See f k) h = shows_alone (k (known (node_in g.cells f))) (h (known (node_in g.cells f)))
  shows_alone (Find d name k) h = shows_alone (k (known (name_in g.cells d name))) (h (known (name_in g.cells d name)))
  shows_alone (Climb a d k) h = let b = ended (climbed (suc (length g.cells)) g.cells a d) in shows_alone (k b) (h b)
  shows_alone (Names d c k) h = shows_alone (k (g.names d c)) (h (g.names d c))
  shows_alone (Text f k) h = shows_alone (k (g.text f)) (h (g.text f))
  shows_alone (Bytes f at count k) h = ends_alone (k (g.bytes f at count)) (k (bytes f at count)) (h (g.bytes f at count) (bytes f at count))
  shows_alone (Verifier k) h = ends_alone (k g.verifier) (k verifier) (h g.verifier verifier)
  shows_alone (Want ks p) h = shows_alone p h

  shows_wanted : (p : Plan Outcome) → OnlyShows ShowAlone p → wanted g p ≡ wanted told p
  shows_wanted (Done a) h = refl
  shows_wanted (Stop s) h = refl
  shows_wanted (Look f k) h = wants_one f (λ o. wanted g (k o)) (λ o. wanted told (k o)) (λ o. shows_wanted (k o) (h o)) (node_in g.cells f)
  shows_wanted (See f k) h = wants_one f (λ o. wanted g (k o)) (λ o. wanted told (k o)) (λ o. shows_wanted (k o) (h o)) (node_in g.cells f)
  shows_wanted (Find d name k) h = wants_named d name (λ o. wanted g (k o)) (λ o. wanted told (k o)) (λ o. shows_wanted (k o) (h o)) (name_in g.cells d name)
  shows_wanted (Climb a d k) h = wants_climbed (λ b. wanted g (k b)) (λ b. wanted told (k b)) (λ b. shows_wanted (k b) (h b)) (climbed (suc (length g.cells)) g.cells a d)
  shows_wanted (Names d c k) h = shows_wanted (k (g.names d c)) (h (g.names d c))
  shows_wanted (Text f k) h = shows_wanted (k (g.text f)) (h (g.text f))
  shows_wanted (Bytes f at count k) h = ends_want (k (g.bytes f at count)) (k (bytes f at count)) (h (g.bytes f at count) (bytes f at count))
  shows_wanted (Verifier k) h = ends_want (k g.verifier) (k verifier) (h g.verifier verifier)
  shows_wanted (Want ks p) h = ap (or_next (missing g.cells ks)) (shows_wanted p h)

effect_alone : (fault : Status → Reply) (x y : Result Outcome Status) → Alone x y → ShowAlone (effect_from fault x) (effect_from fault y)
effect_alone fault (Ok a) (Ok b) h = h
effect_alone fault (Err s) (Err t) h = record { changes = refl; answer = ap (λ z. blank (fault z)) h }
effect_alone fault (Ok a) (Err t) h = absurd h
effect_alone fault (Err s) (Ok b) h = absurd h

pub bytes_only_show : BytesOnlyShow
bytes_only_show g bytes verifier c cred now choice =
    let h = calls_show c cred now choice in
    record {
      needs = shows_wanted g bytes verifier (plan c cred now choice) h;
      effect = effect_alone (fault c) _ _ (shows_alone g bytes verifier (plan c cred now choice) h);
    }
