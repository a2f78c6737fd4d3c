-- No call's plan tells apart what unstable writes change of a node that it only looks at.
use Rattle.std.proofs.Common.{◌≡◌, ℕ, List, Option, Some, None, Bool, true, false, cond, Result, Ok, Err, refl, sym, ap, subst, ◌∙◌}
use Rattle.std.specs.Prelude.{◌==◌, ◌||◌, ◌&&◌, not, nat_le, nat_lt, length, is_some, if◌then◌else◌}
use Rattle.std.proofs.lemmas.Bool.{and_parts}
use Rattle.sl_defs.specs.declared.setup.Time.{Time}
use Rattle.sl_defs.specs.declared.note.Choice.{Choice}
use Rattle.sl_types.specs.declared.kind.Kind.{Kind}
use Rattle.sl_types.specs.declared.kind.Kind.TheVariants as kind
use Rattle.sl_types.specs.declared.kind.Status.{Status}
use Rattle.sl_types.specs.declared.kind.Status.TheVariants.{Stale, NotDir, Inval, Acces, NameTooLong, Exist, MLink}
use Rattle.sl_types.specs.declared.call.Stable.{Stable}
use Rattle.sl_types.specs.declared.call.CreateHow.{CreateHow}
use Rattle.sl_types.specs.declared.cred.Cred.{Cred}
use Rattle.sl_types.specs.declared.handle.Handle.{Handle}
use Rattle.sl_types.specs.declared.call.Call.{Call}
use Rattle.sl_types.specs.declared.call.Call.TheVariants as call
use Rattle.sl_types.specs.Handles.{handle_of}
use Rattle.sl_model.specs.declared.node.Node.{Node}
use Rattle.sl_model.specs.declared.node.Entry.{Entry}
use Rattle.sl_model.specs.Plan.{Plan, Done, Stop, Look, See, Find, Climb, Names, Text, Bytes, Verifier, Want, Sight, run, and_then, ◌>>=◌}
use Rattle.sl_model.specs.Volume.{is_dir, is_reg, is_lnk}
use Rattle.sl_model.specs.Checks.{refuse, handle_or, handle, checked, checked_both, is_bad, same_kind, is_of, object_or, live, in_directory, granted, object, directory, node_or, see, entry_or, entry, find, text_of, is_dot, is_dot_dot, is_dots, place, want}
use Rattle.sl_types.specs.declared.reply.Reply.TheVariants as reply
use Rattle.sl_model.specs.Looking.{Outcome, unchanged, attributes, lookup_in, readlink, listing}
use Rattle.sl_model.specs.Changing.{guarded, guarded_by, same_time, max_links, linking, link, rename, write_in, absent, create_at, is_guarded, same_create, special_or, Special, see_if, climbs, rename_in, is_one, rename_to, is_bad_target, is_full}
use Rattle.sl_model.specs.Procedures.{plan, with_handle, with_handles}
use Rattle.sl_model.specs.Gathered.{IsLike, IsBlind}
use Rattle.sl_model.specs.Laws.{CallsAreBlind}

pub run_bind : {A B : Type 0} (s : Sight) (p : Plan A) (f : A → Plan B) → run s (p >>= f) ≡ and_then (run s p) (λ a. run s (f a))
unfolding run ◌>>=◌
run_bind s (Done a) f = refl
run_bind s (Stop t) f = refl
run_bind s (Look n k) f = run_bind s (k (s.look n)) f
run_bind s (See n k) f = run_bind s (k (s.see n)) f
run_bind s (Find d n k) f = run_bind s (k (s.find d n)) f
run_bind s (Climb a b k) f = run_bind s (k (s.below a b)) f
run_bind s (Names d c k) f = run_bind s (k (s.names d c)) f
run_bind s (Text n k) f = run_bind s (k (s.text n)) f
run_bind s (Bytes n a c k) f = run_bind s (k (s.bytes n a c)) f
run_bind s (Verifier k) f = run_bind s (k s.verifier) f
run_bind s (Want ks p) f = run_bind s p f

-- ---- composing

-- where a plan and each rest is blind, so is the whole
then_blind : {A B : Type 0} (p : Plan A) (f : A → Plan B) → IsBlind p → ((a : A) → IsBlind (f a)) → IsBlind (p >>= f)
unfolding ◌>>=◌
then_blind (Done a) f b h = h a
then_blind (Stop s) f b h = tt
then_blind (Look x k) f b h = (
  λ n m s l. run_bind s (k (Some n)) f ∙ ap (λ r. and_then r (λ a. run s (f a))) (b.0 n m s l) ∙ sym (run_bind s (k (Some m)) f),
  λ o. then_blind (k o) f (b.1 o) h,
)
then_blind (See x k) f b h = λ o. then_blind (k o) f (b o) h
then_blind (Find d x k) f b h = λ o. then_blind (k o) f (b o) h
then_blind (Climb x y k) f b h = λ o. then_blind (k o) f (b o) h
then_blind (Names d c k) f b h = λ o. then_blind (k o) f (b o) h
then_blind (Text x k) f b h = λ o. then_blind (k o) f (b o) h
then_blind (Bytes x a c k) f b h = λ o. then_blind (k o) f (b o) h
then_blind (Verifier k) f b h = λ o. then_blind (k o) f (b o) h
then_blind (Want ks p) f b h = then_blind p f b h

either_blind : {B : Type 0} (b : Bool) (x y : Plan B) → IsBlind x → IsBlind y → IsBlind (if b then x else y)
either_blind true x y h k = h
either_blind false x y h k = k

refuse_then : {B : Type 0} (b : Bool) (s : Status) (f : Unit {0} → Plan B) → IsBlind (f tt) → IsBlind (refuse b s >>= f)
unfolding ◌>>=◌
refuse_then true s f h = tt
refuse_then false s f h = h

-- every caller is granted
done_then : {A B : Type 0} (a : A) (f : A → Plan B) → IsBlind (f a) → IsBlind (Done a >>= f)
unfolding ◌>>=◌
done_then a f h = h

refuse_blind : (b : Bool) (s : Status) → IsBlind (refuse b s)
refuse_blind b s = either_blind b (Stop s) (Done tt) tt tt

-- ---- parts that look at nothing

handle_then : {B : Type 0} (bytes : List ℕ) (f : Handle → Plan B) → ((h : Handle) → IsBlind (f h)) → IsBlind (handle bytes >>= f)
unfolding ◌>>=◌
handle_then bytes f k = at (handle_of bytes)
  where
    at : (o : Option Handle) → IsBlind (handle_or o >>= f)
    at None = tt
    at (Some h) = k h

checked_blind : (name : List ℕ) → IsBlind (checked name)
unfolding checked
checked_blind name = refuse_then (nat_lt 255 (length name)) NameTooLong _ (refuse_blind (is_bad name) Acces)

both_blind : (a b : List ℕ) → IsBlind (checked_both a b)
unfolding checked_both
both_blind a b = refuse_then (nat_lt 255 (length a) || nat_lt 255 (length b)) NameTooLong _ (refuse_blind (is_bad a || is_bad b) Acces)

node_blind : (o : Option Node) → IsBlind (node_or o)
node_blind None = tt
node_blind (Some n) = tt

entry_blind : (o : Option Entry) → IsBlind (entry_or o)
entry_blind None = tt
entry_blind (Some e) = tt

see_then : {B : Type 0} (f : ℕ) (k : Node → Plan B) → ((n : Node) → IsBlind (k n)) → IsBlind (see f >>= k)
see_then f k h = then_blind (see f) k node_blind h

entry_then : {B : Type 0} (d : ℕ) (name : List ℕ) (k : Entry → Plan B) → ((e : Entry) → IsBlind (k e)) → IsBlind (entry d name >>= k)
entry_then d name k h = then_blind (entry d name) k entry_blind h

absent_blind : (h : Handle) (name : List ℕ) → IsBlind (absent h name)
unfolding absent
absent_blind h name = refuse_then (is_dots name) Exist _ (then_blind _ _ (λ o. tt) (λ o. refuse_blind (is_some o) Exist))

guarded_blind : (f : ℕ) (t : Option Time) → IsBlind (guarded f t)
unfolding guarded
guarded_blind f None = tt
guarded_blind f (Some t) = see_then f _ (λ n. refuse_blind _ _)

special_blind : (o : Option Special) → IsBlind (special_or o)
special_blind None = tt
special_blind (Some s) = tt

see_if_blind : (o : Option Entry) → IsBlind (see_if o)
unfolding see_if
see_if_blind None = tt
see_if_blind (Some e) = see_then e.fileid _ (λ n. tt)

climbs_blind : (b : Bool) (a d : ℕ) → IsBlind (climbs b a d)
unfolding climbs
climbs_blind true a d = λ o. tt
climbs_blind false a d = tt

-- ---- parts that look at an object

like_kind : (n m : Node) → IsLike n m → n.kind ≡ m.kind
like_kind n m l = ap (λ (z : Node). z.kind) l.same

like_of : (h : Handle) (n m : Node) → IsLike n m → is_of h n ≡ is_of h m
like_of h n m l = ap (is_of h) l.same

-- what goes on only where the object is no file, or ends the same
unless_file : {R : Type 0} (b : Bool) (n m : Node) → IsLike n m → (b ≡ true → is_reg m.kind ≡ false) → (F : Bool → Node → R) → F false n ≡ F false m → F b n ≡ F b m
unless_file true n m l o F e = ap (F true) (l.other (o refl))
unless_file false n m l o F e = e

pub dir_no_file : (h m : Kind) → same_kind m h ≡ true → is_dir h ≡ true → is_reg m ≡ false
dir_no_file kind.Dir kind.Reg s e = absurd cc
dir_no_file kind.Reg kind.Reg s e = absurd cc
dir_no_file kind.Blk kind.Reg s e = absurd cc
dir_no_file kind.Chr kind.Reg s e = absurd cc
dir_no_file kind.Lnk kind.Reg s e = absurd cc
dir_no_file kind.Sock kind.Reg s e = absurd cc
dir_no_file kind.Fifo kind.Reg s e = absurd cc
dir_no_file h kind.Dir s e = refl
dir_no_file h kind.Blk s e = refl
dir_no_file h kind.Chr s e = refl
dir_no_file h kind.Lnk s e = refl
dir_no_file h kind.Sock s e = refl
dir_no_file h kind.Fifo s e = refl

lnk_no_file : (h m : Kind) → same_kind m h ≡ true → is_lnk h ≡ true → is_reg m ≡ false
lnk_no_file kind.Lnk kind.Reg s e = absurd cc
lnk_no_file kind.Reg kind.Reg s e = absurd cc
lnk_no_file kind.Blk kind.Reg s e = absurd cc
lnk_no_file kind.Chr kind.Reg s e = absurd cc
lnk_no_file kind.Dir kind.Reg s e = absurd cc
lnk_no_file kind.Sock kind.Reg s e = absurd cc
lnk_no_file kind.Fifo kind.Reg s e = absurd cc
lnk_no_file h kind.Dir s e = refl
lnk_no_file h kind.Blk s e = refl
lnk_no_file h kind.Chr s e = refl
lnk_no_file h kind.Lnk s e = refl
lnk_no_file h kind.Sock s e = refl
lnk_no_file h kind.Fifo s e = refl

pub of_kind : (h : Handle) (m : Node) → is_of h m ≡ true → same_kind m.kind h.kind ≡ true
of_kind h m e = (and_parts (m.fsid == h.volume) (same_kind m.kind h.kind) e).1

-- the two ends of what follows a live object
abbrev EndSame : {B : Type 0} → Handle → (Node → Plan B) → Type 0
EndSame h f = (n m : Node) (s : Sight) → IsLike n m → same_kind m.kind h.kind ≡ true → run s (f n) ≡ run s (f m)

live_then : {B : Type 0} (h : Handle) (f : Node → Plan B) → EndSame h f → ((n : Node) → IsBlind (f n)) → IsBlind (live h >>= f)
unfolding run ◌>>=◌
live_then h f same k = (
  λ n m s l. ap (λ b. run s (cond b (Done n) (Stop Stale) >>= f)) (like_of h n m l) ∙ at n m s l (is_of h m) refl,
  rest,
)
  where
    at : (n m : Node) (s : Sight) → IsLike n m → (b : Bool) → is_of h m ≡ b → run s (cond b (Done n) (Stop Stale) >>= f) ≡ run s (cond b (Done m) (Stop Stale) >>= f)
    at n m s l true e = same n m s l (of_kind h m e)
    at n m s l false e = refl

    one : (b : Bool) (n : Node) → IsBlind (cond b (Done n) (Stop Stale) >>= f)
    one true n = k n
    one false n = tt

    rest : (o : Option Node) → IsBlind (object_or h o >>= f)
    rest None = tt
    rest (Some n) = one (is_of h n) n

-- whatever follows, the object itself isn't used
object_then : {B : Type 0} (cred : Cred) (h : Handle) (f : Node → Plan B) → EndSame h f → ((n : Node) → IsBlind (f n)) → IsBlind (object cred h >>= f)
unfolding run ◌>>=◌
object_then cred h f same k = (
  λ n m s l. ap (λ b. run s (cond b (Done n) (Stop Stale) >>= granting >>= f)) (like_of h n m l) ∙ at n m s l (is_of h m) refl,
  rest,
)
  where
    granting : Node → Plan Node
    granting n = do
      _ ← granted cred n
      Done n

    at : (n m : Node) (s : Sight) → IsLike n m → (b : Bool) → is_of h m ≡ b
        → run s (cond b (Done n) (Stop Stale) >>= granting >>= f) ≡ run s (cond b (Done m) (Stop Stale) >>= granting >>= f)
    at n m s l true e = same n m s l (of_kind h m e)
    at n m s l false e = refl

    one : (b : Bool) (n : Node) → IsBlind (cond b (Done n) (Stop Stale) >>= granting >>= f)
    one true n = k n
    one false n = tt

    rest : (o : Option Node) → IsBlind (object_or h o >>= granting >>= f)
    rest None = tt
    rest (Some n) = one (is_of h n) n

object_alone : {B : Type 0} (cred : Cred) (h : Handle) (p : Plan B) → IsBlind p → IsBlind (object cred h >>= λ n. p)
object_alone cred h p b = object_then cred h (λ n. p) (λ n m s l k. refl) (λ n. b)

directory_blind : (cred : Cred) (h : Handle) → IsBlind (directory cred h)
unfolding run ◌>>=◌
directory_blind cred h = live_then h _
    (λ n m s l k. unless_file (is_dir h.kind) n m l (dir_no_file h.kind m.kind k) (λ b z. run s (refuse (not b) NotDir >>= λ _. granted cred z >>= λ _. Done z)) refl)
    (λ n. refuse_then (not (is_dir h.kind)) NotDir _ tt)

directory_then : {B : Type 0} (cred : Cred) (h : Handle) (f : Node → Plan B) → ((n : Node) → IsBlind (f n)) → IsBlind (directory cred h >>= f)
directory_then cred h f k = then_blind (directory cred h) f (directory_blind cred h) k

-- ---- the procedures

lookup_blind : (h : Handle) (d : Node) (name : List ℕ) → IsBlind (lookup_in h d name)
unfolding lookup_in
lookup_blind h d name = either_blind (is_dot name) _ _ tt (either_blind (is_dot_dot name) _ _ tt (entry_then h.fileid name _ (λ e. see_then e.fileid _ (λ n. tt))))

write_blind : (h : Handle) (offset count : ℕ) (asked : Stable) (bytes : List ℕ) (now : Time) (choice : Choice) → IsBlind (write_in h offset count asked bytes now choice)
unfolding write_in
write_blind h offset count asked bytes now choice = either_blind (count == 0) _ _
    (see_then h.fileid _ (λ n. then_blind _ _ (λ w. tt) (λ w. tt)))
    (refuse_then _ _ _ (see_then h.fileid _ (λ n. then_blind _ _ (λ w. tt) (λ w. tt))))

create_blind : (d : Node) (name : List ℕ) (how : CreateHow) (cred : Cred) (now : Time) (choice : Choice) (o : Option Entry) → IsBlind (create_at d name how cred now choice o)
unfolding create_at
create_blind d name how cred now choice None = refuse_then _ _ _ tt
create_blind d name how cred now choice (Some e) = refuse_then _ _ _ (see_then e.fileid _ (λ n. refuse_then _ _ _ tt))

rename_blind : (from : Node) (name : List ℕ) (to : Node) (to_name : List ℕ) (e : Entry) (o : Option Entry) (now : Time) → IsBlind (rename_in from name to to_name e o now)
unfolding rename_in
rename_blind from name to to_name e o now = either_blind (is_one e o) _ _ tt
    (then_blind _ _ (climbs_blind _ e.fileid to.fileid) (λ b. refuse_then b Inval _ (see_then e.fileid _ (λ n. then_blind _ _ (see_if_blind o)
    (λ t. refuse_then (is_bad_target n t) Exist _ (refuse_then _ MLink _ tt))))))

-- a plan that goes on only where the object is a directory
if_directory : {B : Type 0} (h : Handle) (f : Bool → Node → Plan B) → ((n m : Node) (s : Sight) → run s (f false n) ≡ run s (f false m)) → EndSame h (f (is_dir h.kind))
if_directory h f e n m s l k = unless_file (is_dir h.kind) n m l (dir_no_file h.kind m.kind k) (λ b z. run s (f b z)) (e n m s)

if_link : {B : Type 0} (h : Handle) (f : Bool → Node → Plan B) → ((n m : Node) (s : Sight) → run s (f false n) ≡ run s (f false m)) → EndSame h (f (is_lnk h.kind))
if_link h f e n m s l k = unless_file (is_lnk h.kind) n m l (lnk_no_file h.kind m.kind k) (λ b z. run s (f b z)) (e n m s)

readlink_blind : (cred : Cred) (h : Handle) → IsBlind (readlink cred h)
unfolding run ◌>>=◌
readlink_blind cred h = object_then cred h (λ n. refuse (not (is_lnk h.kind)) Inval >>= λ u. telling n)
    (if_link h (λ b n. refuse (not b) Inval >>= λ u. telling n) (λ n m s. refl)) (λ n. refuse_then (not (is_lnk h.kind)) Inval (λ u. telling n) (λ t. tt))
  where
    telling : Node → Plan Outcome
    telling n = do
      text ← text_of h.fileid
      unchanged (reply.Readlink (Ok (record { attributes = Some (attributes n); path = text })))

module _ (cred : Cred) (h to : Handle) (name : List ℕ) (now : Time) where
  -- the linked object and the directory are looked at, and then the object is seen
  abbrev linked : ℕ → Bool → Node → Plan Outcome
  linked nlink b d = do
    _ ← refuse (not b) NotDir
    _ ← granted cred d
    _ ← granted cred d
    _ ← refuse (is_dir h.kind) Inval
    _ ← absent to name
    _ ← refuse (nat_le max_links nlink) MLink
    n ← see h.fileid
    Done (linking d name n now)

  linked_blind : (nlink : ℕ) (b : Bool) (d : Node) → IsBlind (linked nlink b d)
  linked_blind nlink b d = refuse_then _ _ _ (done_then tt _ (done_then tt _ (refuse_then _ _ _ (then_blind _ _ (absent_blind to name) (λ u. refuse_then _ _ _ (see_then h.fileid _ (λ n. tt)))))))

  not_into : (nlink : ℕ) (n m : Node) (s : Sight) → run s (linked nlink false n) ≡ run s (linked nlink false m)
  unfolding run ◌>>=◌
  not_into nlink n m s = refl

  into_blind : (nlink : ℕ) → IsBlind (live to >>= linked nlink (is_dir to.kind))
  into_blind nlink = live_then to _ (if_directory to (linked nlink) (not_into nlink)) (linked_blind nlink (is_dir to.kind))

  link_blind : IsBlind (link cred h to name now)
  link_blind = then_blind _ _ (checked_blind name) (λ u. then_blind _ _ tt (λ w. live_then h (λ o. live to >>= linked o.nlink (is_dir to.kind))
      (λ n m s l k. ap (λ (z : Node). run s (live to >>= linked z.nlink (is_dir to.kind))) l.same) (λ n. into_blind n.nlink)))

module _ (cred : Cred) (a : Handle) (name : List ℕ) (b : Handle) (to_name : List ℕ) (now : Time) where
  -- both directories are looked at, and then named in
  abbrev moving : Node → Bool → Bool → Node → Plan Outcome
  moving f x y d = do
    _ ← refuse (not x) NotDir
    _ ← refuse (not y) NotDir
    _ ← granted cred f
    _ ← granted cred d
    _ ← refuse (is_dots name || is_dots to_name) Inval
    e ← entry a.fileid name
    o ← find b.fileid to_name
    rename_in f name d to_name e o now

  moving_blind : (f : Node) (x y : Bool) (d : Node) → IsBlind (moving f x y d)
  moving_blind f x y d = refuse_then _ _ _ (refuse_then _ _ _ (done_then tt _ (done_then tt _ (refuse_then _ _ _ (entry_then a.fileid name _ (λ e.
      then_blind _ _ (λ o. tt) (λ o. rename_blind f name d to_name e o now)))))))

  not_to : (f n m : Node) (s : Sight) → run s (moving f (is_dir a.kind) false n) ≡ run s (moving f (is_dir a.kind) false m)
  unfolding run ◌>>=◌
  not_to f n m s = refl

  not_from : (n m : Node) (s : Sight) → run s (live b >>= moving n false (is_dir b.kind)) ≡ run s (live b >>= moving m false (is_dir b.kind))
  unfolding run ◌>>=◌
  not_from n m s = refl

  to_blind : (f : Node) → IsBlind (live b >>= moving f (is_dir a.kind) (is_dir b.kind))
  to_blind f = live_then b _ (if_directory b (moving f (is_dir a.kind)) (not_to f)) (moving_blind f (is_dir a.kind) (is_dir b.kind))

  rename_all_blind : IsBlind (rename cred a name b to_name now)
  rename_all_blind = then_blind _ _ (both_blind name to_name) (λ u. then_blind _ _ tt (λ w. live_then a (λ f. live b >>= moving f (is_dir a.kind) (is_dir b.kind))
      (if_directory a (λ x f. live b >>= moving f x (is_dir b.kind)) not_from) to_blind))

listing_blind : (cred : Cred) (h : Handle) (cookie verifier fixed count : ℕ) → IsBlind (listing cred h cookie verifier fixed count)
listing_blind cred h cookie verifier fixed count = directory_then cred h _ (λ d. refuse_then _ _ _ (then_blind _ _ (λ o. tt) (λ names. refuse_then _ _ _ tt)))

pub calls_are_blind : CallsAreBlind
calls_are_blind call.Null cred now choice = tt
calls_are_blind (call.Getattr object) cred now choice = handle_then object _ (λ h. object_alone cred h _ (see_then h.fileid _ (λ n. tt)))
calls_are_blind (call.Setattr object attributes guard) cred now choice = handle_then object _ (λ h. refuse_then _ _ _ (object_alone cred h _ (then_blind _ _ (guarded_blind h.fileid guard)
    (λ u. refuse_then _ _ _ (refuse_then _ _ _ (see_then h.fileid _ (λ n. tt)))))))
calls_are_blind (call.Lookup dir name) cred now choice = handle_then dir _ (λ h. then_blind _ _ (checked_blind name) (λ u. then_blind _ _ tt (λ w. directory_then cred h _ (λ d. lookup_blind h d name))))
calls_are_blind (call.Access object bits) cred now choice = handle_then object _ (λ h. object_alone cred h _ (see_then h.fileid _ (λ n. tt)))
calls_are_blind (call.Readlink file) cred now choice = handle_then file _ (λ h. readlink_blind cred h)
calls_are_blind (call.Read file offset count) cred now choice = handle_then file _ (λ h. object_alone cred h _ (refuse_then _ _ _ (see_then h.fileid _ (λ n. then_blind _ _ (λ o. tt) (λ o. tt)))))
calls_are_blind (call.Write file offset count asked bytes) cred now choice = handle_then file _ (λ h. object_alone cred h _ (refuse_then _ _ _ (write_blind h offset count asked bytes now choice)))
calls_are_blind (call.Create dir name how) cred now choice = handle_then dir _ (λ h. then_blind _ _ (checked_blind name) (λ u. refuse_then _ _ _ (then_blind _ _ tt (λ w. directory_then cred h _ (λ d.
    refuse_then _ _ _ (refuse_then _ _ _ (then_blind _ _ (λ o. tt) (λ o. create_blind d name how cred now choice o))))))))
calls_are_blind (call.Mkdir dir name attributes) cred now choice = handle_then dir _ (λ h. then_blind _ _ (checked_blind name) (λ u. refuse_then _ _ _ (then_blind _ _ tt (λ w. directory_then cred h _ (λ d.
    then_blind _ _ (absent_blind h name) (λ x. refuse_then _ _ _ (refuse_then _ _ _ tt)))))))
calls_are_blind (call.Symlink dir name attributes path) cred now choice = handle_then dir _ (λ h. then_blind _ _ (checked_blind name) (λ u. refuse_then _ _ _ (refuse_then _ _ _ (then_blind _ _ tt (λ w.
    directory_then cred h _ (λ d. then_blind _ _ (absent_blind h name) (λ x. refuse_then _ _ _ tt)))))))
calls_are_blind (call.Mknod dir name what) cred now choice = handle_then dir _ (λ h. then_blind _ _ (checked_blind name) (λ u. refuse_then _ _ _ (then_blind _ _ tt (λ w. directory_then cred h _ (λ d.
    then_blind _ _ (special_blind _) (λ s. then_blind _ _ (absent_blind h name) (λ x. refuse_then _ _ _ tt)))))))
calls_are_blind (call.Remove dir name) cred now choice = handle_then dir _ (λ h. then_blind _ _ (checked_blind name) (λ u. then_blind _ _ tt (λ w. directory_then cred h _ (λ d.
    refuse_then _ _ _ (entry_then h.fileid name _ (λ e. refuse_then _ _ _ (see_then e.fileid _ (λ n. tt))))))))
calls_are_blind (call.Rmdir dir name) cred now choice = handle_then dir _ (λ h. then_blind _ _ (checked_blind name) (λ u. then_blind _ _ tt (λ w. directory_then cred h _ (λ d.
    refuse_then _ _ _ (refuse_then _ _ _ (entry_then h.fileid name _ (λ e. refuse_then _ _ _ (see_then e.fileid _ (λ n. refuse_then _ _ _ tt)))))))))
calls_are_blind (call.Rename from name to to_name) cred now choice = handle_then from _ (λ a. handle_then to _ (λ b. rename_all_blind cred a name b to_name now))
calls_are_blind (call.Link file dir name) cred now choice = handle_then file _ (λ h. handle_then dir _ (λ to. link_blind cred h to name now))
calls_are_blind (call.Readdir dir cookie verifier count) cred now choice = handle_then dir _ (λ h. then_blind _ _ (listing_blind cred h cookie verifier 24 count) (λ l. tt))
calls_are_blind (call.Readdirplus dir cookie verifier dircount maxcount) cred now choice = handle_then dir _ (λ h. then_blind _ _ (listing_blind cred h cookie verifier 68 maxcount) (λ l. tt))
calls_are_blind (call.Fsstat object) cred now choice = handle_then object _ (λ h. object_alone cred h _ tt)
calls_are_blind (call.Fsinfo object) cred now choice = handle_then object _ (λ h. object_alone cred h _ tt)
calls_are_blind (call.Pathconf object) cred now choice = handle_then object _ (λ h. object_alone cred h _ tt)
calls_are_blind (call.Commit file offset count) cred now choice = handle_then file _ (λ h. object_alone cred h _ (refuse_then _ _ _ (see_then h.fileid _ (λ n. then_blind _ _ (λ w. tt) (λ w. tt)))))
