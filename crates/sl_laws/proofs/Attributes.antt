-- What calls that ask for attributes alone answer, and set.
use Rattle.std.proofs.Common.{◌≡◌, ℕ, suc, ◌+◌, List, [], ◌∷◌, Option, Some, None, Bool, true, false, cond, Result, Ok, Err, length, refl, sym, ap, subst, ◌∙◌}
use Rattle.std.specs.Prelude.{◌-◌, ◌==◌, ◌&&◌, not, take, min, max, nat_le, nat_lt, bit_and}
use Rattle.std.specs.FinMap as map
use Rattle.sl_defs.specs.declared.setup.Time.{Time}
use Rattle.sl_defs.specs.declared.note.Choice.{Choice}
use Rattle.sl_types.specs.declared.kind.Status.{Status}
use Rattle.sl_types.specs.declared.kind.Status.TheVariants.{Stale, NotDir, NameTooLong}
use Rattle.sl_types.specs.declared.attributes.Fattr.{Fattr}
use Rattle.sl_types.specs.declared.call.Stable.{Stable}
use Rattle.sl_types.specs.declared.call.Stable.TheVariants as stable
use Rattle.sl_types.specs.declared.cred.Cred.{Cred}
use Rattle.sl_types.specs.declared.handle.Handle.{Handle}
use Rattle.sl_types.specs.Handles.{handle_of}
use Rattle.sl_types.specs.declared.call.Call.{Call}
use Rattle.sl_types.specs.declared.call.Call.TheVariants as call
use Rattle.sl_types.specs.declared.reply.Reply.{Reply}
use Rattle.sl_types.specs.declared.reply.Reply.TheVariants as reply
use Rattle.sl_model.specs.declared.node.Node.{Node}
use Rattle.sl_model.specs.declared.node.Entry.{Entry}
use Rattle.sl_model.specs.Plan.{Plan, Done, Stop, Look, See, Find, Climb, Names, Text, Bytes, Verifier, Want, Key, Sight, run, and_then, ◌>>=◌}
use Rattle.sl_model.specs.Volume.{Volume, Unstable, Change, PutNode, PutBytes, AddWrite, changed, after_changes, sight, seen, seen_as, after_writes, written_to, is_dir, is_reg}
use Rattle.sl_model.specs.Checks.{refuse, handle_or, handle, checked, same_kind, is_of, object_or, live, in_directory, granted, object, directory, node_or, see, entry_or, entry, bytes_of, verifier, want, place, is_dot, is_dot_dot}
use Rattle.sl_model.specs.Looking.{Outcome, unchanged, attributes, handle_to, directory_handle, lookup_in, lookup_name, committing, read, commit, up_to_unit}
use Rattle.sl_model.specs.Looking as looking
use Rattle.sl_model.specs.Changing.{write_in, writing, unstable_write, stable_write, is_unstable, writable, write_none, write_at}
use Rattle.sl_model.specs.Procedures.{plan, fault}
use Rattle.sl_model.specs.Perform.{ends, perform}
use Rattle.sl_model.specs.Tree.{Tree}
use Rattle.sl_model.specs.Gathered.{Gathered, node_in, sight_in, wanted, effect_from, missing, climbed, ended, name_in, known}
use Rattle.sl_model.proofs.Alike.{writes_same, other_seen, looked, found, climbed_on, only_next}
use Rattle.sl_model.proofs.Blind.{run_bind, dir_no_file, of_kind}
use Rattle.sl_laws.specs.Attributes.{asks_attributes, HasAttributes, HaveAttributes, GathersAttributes, with_attributes, keeping, setting_in, after_settings, IsRightSet, AttributesSuffice}
use Rattle.sl_laws.proofs.Steps.{same_node}
use Rattle.sl_laws.proofs.Views.{writes_keep}

-- two ends of one kind
abbrev Near : {A : Type 0} → (A → A → Type 0) → Result A Status → Result A Status → Type 0
Near R (Ok a) (Ok b) = R a b
Near R (Err s) (Err t) = s ≡ t
Near R _ _ = ⊥

-- the attributes of a node, and what is kept beside them of another
abbrev assembled : Fattr → Node → Node
assembled a m = record {
  kind = a.kind;
  mode = a.mode;
  nlink = a.nlink;
  uid = a.uid;
  gid = a.gid;
  size = a.size;
  major = a.major;
  minor = a.minor;
  fsid = a.fsid;
  fileid = a.fileid;
  atime = a.atime;
  mtime = a.mtime;
  ctime = a.ctime;
  parent = m.parent;
  entries = m.entries;
  made = m.made;
  verifier = m.verifier;
}

same_rest : (m a : Node) (ws : List Unstable) → attributes a ≡ attributes (after_writes ws m) → with_attributes m a ≡ after_writes ws m
same_rest m a ws e = ap (λ z. assembled z m) e ∙ ap (with_attributes m) (writes_same ws m) ∙ sym (writes_same ws m)

module _ (v : Volume) (g : Gathered) (tree : Tree v) (all : GathersAttributes g v) where
  abbrev told_at : {A : Type 0} → Option (Option A) → Option A → Option A
  told_at None o = o
  told_at (Some x) o = x

  abbrev told : ℕ → Option Node
  told f = told_at (node_in g.cells f) (seen v f)

  abbrev told_name : ℕ → List ℕ → Option Entry
  told_name d name = told_at (name_in g.cells d name) (map.get v.names (d, name))

  -- what was gathered, with what the volume shows in the place of what wasn't
  abbrev sighted : Sight
  sighted = record (sight_in g) { look = told; see = told; find = told_name }

  same_self : (o : Option Node) → HaveAttributes o o
  same_self None = tt
  same_self (Some n) = record { same = refl; other = λ r. refl }

  told_same : (f : ℕ) → HaveAttributes (told f) (seen v f)
  told_same f = at (node_in g.cells f) refl
    where
      at : (x : Option (Option Node)) → node_in g.cells f ≡ x → HaveAttributes (told_at x (seen v f)) (seen v f)
      at None e = same_self (seen v f)
      at (Some o) e = all.nodes f o e

  name_same : (d : ℕ) (name : List ℕ) → told_name d name ≡ map.get v.names (d, name)
  name_same d name = at (name_in g.cells d name) refl
    where
      at : (x : Option (Option Entry)) → name_in g.cells d name ≡ x → told_at x (map.get v.names (d, name)) ≡ map.get v.names (d, name)
      at None e = refl
      at (Some o) e = all.found d name o e

  told_run : {A : Type 0} (p : Plan A) → wanted g p ≡ [] → run (sight_in g) p ≡ run sighted p
  unfolding run
  told_run (Done a) none = refl
  told_run (Stop s) none = refl
  told_run (Look f k) none =
      let h = looked f (λ o. wanted g (k o)) (node_in g.cells f) none in
      told_run (k (known (node_in g.cells f))) h.1 ∙ ap (λ x. run sighted (k (told_at x (seen v f)))) (sym h.0)
  told_run (See f k) none =
      let h = looked f (λ o. wanted g (k o)) (node_in g.cells f) none in
      told_run (k (known (node_in g.cells f))) h.1 ∙ ap (λ x. run sighted (k (told_at x (seen v f)))) (sym h.0)
  told_run (Find d name k) none =
      let h = found d name (λ o. wanted g (k o)) (name_in g.cells d name) none in
      told_run (k (known (name_in g.cells d name))) h.1 ∙ ap (λ x. run sighted (k (told_at x (map.get v.names (d, name))))) (sym h.0)
  told_run (Want ks p) none = told_run p (only_next (missing g.cells ks) (wanted g p) none)
  told_run (Climb a d k) none =
      let c = climbed (suc (length g.cells)) g.cells a d in
      told_run (k (ended c)) (climbed_on (λ b. wanted g (k b)) c none).1
  told_run (Names d c k) none = told_run (k (g.names d c)) none
  told_run (Text f k) none = told_run (k (g.text f)) none
  told_run (Bytes f at count k) none = told_run (k (g.bytes f at count)) none
  told_run (Verifier k) none = told_run (k g.verifier) none

  near_both : {A B : Type 0} (R : A → A → Type 0) (S : B → B → Type 0) (p : Plan A) (f k : A → Plan B) → Near R (run sighted p) (run (sight v) p)
      → ((a b : A) → R a b → Near S (run sighted (f a)) (run (sight v) (k b))) → Near S (run sighted (p >>= f)) (run (sight v) (p >>= k))
  near_both {A} {B} R S p f k h next =
      subst (λ x. Near S x (run (sight v) (p >>= k))) (sym (run_bind sighted p f))
      (subst (λ x. Near S (and_then (run sighted p) (λ a. run sighted (f a))) x) (sym (run_bind (sight v) p k)) (at (run sighted p) (run (sight v) p) h))
    where
      at : (x y : Result A Status) → Near R x y → Near S (and_then x (λ a. run sighted (f a))) (and_then y (λ a. run (sight v) (k a)))
      at (Ok a) (Ok b) h = next a b h
      at (Err s) (Err t) h = h
      at (Ok a) (Err t) h = absurd h
      at (Err s) (Ok b) h = absurd h

  near_then : {A B : Type 0} (R : A → A → Type 0) (S : B → B → Type 0) (p : Plan A) (f : A → Plan B) → Near R (run sighted p) (run (sight v) p)
      → ((a b : A) → R a b → Near S (run sighted (f a)) (run (sight v) (f b))) → Near S (run sighted (p >>= f)) (run (sight v) (p >>= f))
  near_then R S p f h next = near_both R S p f f h next

  -- what is of no use
  abbrev Any : {A : Type 0} → A → A → Type 0
  Any a b = Unit {0}

  near_refuse : (b : Bool) (s : Status) → Near Any (run sighted (refuse b s)) (run (sight v) (refuse b s))
  unfolding run
  near_refuse true s = refl
  near_refuse false s = tt

  near_handle : (bytes : List ℕ) → Near (λ a b. a ≡ b) (run sighted (handle bytes)) (run (sight v) (handle bytes))
  unfolding run
  near_handle bytes = at (handle_of bytes)
    where
      at : (o : Option Handle) → Near (λ a b. a ≡ b) (run sighted (handle_or o)) (run (sight v) (handle_or o))
      at None = refl
      at (Some h) = refl

  of_view : (h : Handle) (n m : Node) → attributes n ≡ attributes (after_writes v.unstable m) → is_of h n ≡ is_of h m
  of_view h n m e = ap (λ (a : Fattr). a.fsid == h.volume && same_kind a.kind h.kind) e ∙ ap (is_of h) (writes_same v.unstable m)

  -- the object of the handle is there in both, or in neither
  near_object : (cred : Cred) (h : Handle) → Near Any (run sighted (object cred h)) (run (sight v) (object cred h))
  unfolding run ◌>>=◌
  near_object cred h = at (told h.fileid) (map.get v.nodes h.fileid) (told_same h.fileid)
    where
      granting : Node → Plan Node
      granting n = do
        _ ← granted cred n
        Done n

      one : (n m : Node) (x y : Bool) → x ≡ y → Near Any (run sighted (cond x (Done n) (Stop Stale) >>= granting)) (run (sight v) (cond y (Done m) (Stop Stale) >>= granting))
      one n m true true e = tt
      one n m false false e = refl
      one n m true false e = absurd cc
      one n m false true e = absurd cc

      at : (o p : Option Node) → HaveAttributes o (seen_as v.unstable p) → Near Any (run sighted (object_or h o >>= granting)) (run (sight v) (object_or h p >>= granting))
      at None None s = refl
      at (Some n) (Some m) s = one n m (is_of h n) (is_of h m) (of_view h n m s.same)
      at None (Some m) s = absurd s
      at (Some n) None s = absurd s

  -- a directory is the same in both, since none is a file
  near_directory : (cred : Cred) (h : Handle) → Near (λ a b. a ≡ b) (run sighted (directory cred h)) (run (sight v) (directory cred h))
  unfolding run ◌>>=◌
  near_directory cred h = at (told h.fileid) (map.get v.nodes h.fileid) refl (told_same h.fileid)
    where
      entering : Node → Plan Node
      entering n = do
        _ ← in_directory h
        _ ← granted cred n
        Done n

      stopped : (n m : Node) (b : Bool) → (b ≡ true → n ≡ m)
          → Near (λ a b. a ≡ b) (run sighted (refuse (not b) NotDir >>= λ u. granted cred n >>= λ w. Done n)) (run (sight v) (refuse (not b) NotDir >>= λ u. granted cred m >>= λ w. Done m))
      stopped n m true same = same refl
      stopped n m false same = refl

      one : (n m : Node) (x y : Bool) → x ≡ y → (y ≡ true → is_dir h.kind ≡ true → n ≡ m)
          → Near (λ a b. a ≡ b) (run sighted (cond x (Done n) (Stop Stale) >>= entering)) (run (sight v) (cond y (Done m) (Stop Stale) >>= entering))
      one n m true true e same = stopped n m (is_dir h.kind) (same refl)
      one n m false false e same = refl
      one n m true false e same = absurd cc
      one n m false true e same = absurd cc

      equal : (n m : Node) → map.get v.nodes h.fileid ≡ Some m → HasAttributes n (after_writes v.unstable m) → is_of h m ≡ true → is_dir h.kind ≡ true → n ≡ m
      equal n m e s o d =
          let no_file = dir_no_file h.kind m.kind (of_kind h m o) d in
          let whole : after_writes v.unstable m ≡ m = other_seen v.nodes m (ap (map.get v.nodes) (tree.tree.own h.fileid m e).fileid ∙ e) no_file v.unstable tree.unstable in
          s.other (ap (λ (z : Node). is_reg z.kind) whole ∙ no_file) ∙ whole

      at : (o p : Option Node) → map.get v.nodes h.fileid ≡ p → HaveAttributes o (seen_as v.unstable p) → Near (λ a b. a ≡ b) (run sighted (object_or h o >>= entering)) (run (sight v) (object_or h p >>= entering))
      at None None e s = refl
      at (Some n) (Some m) e s = one n m (is_of h n) (is_of h m) (of_view h n m s.same) (equal n m e s)
      at None (Some m) e s = absurd s
      at (Some n) None e s = absurd s

  near_checked : (name : List ℕ) → Near Any (run sighted (checked name)) (run (sight v) (checked name))
  unfolding checked
  near_checked name = near_then Any Any (refuse (nat_lt 255 (length name)) NameTooLong) _ (near_refuse _ _) (λ a b u. near_refuse _ _)

  near_want : (ks : List Key) → Near Any (run sighted (want ks)) (run (sight v) (want ks))
  unfolding run
  near_want ks = tt

  near_entry : (d : ℕ) (name : List ℕ) → Near (λ a b. a ≡ b) (run sighted (entry d name)) (run (sight v) (entry d name))
  unfolding run
  near_entry d name = subst (λ o. Near (λ a b. a ≡ b) (run sighted (entry_or (told_name d name))) (run (sight v) (entry_or o))) (name_same d name) (self (told_name d name))
    where
      self : (o : Option Entry) → Near (λ a b. a ≡ b) (run sighted (entry_or o)) (run (sight v) (entry_or o))
      self None = refl
      self (Some e) = refl

  -- what is seen has the attributes of the view
  record IsView (f : ℕ) (a b : Node) : Type 0 where
    same : attributes a ≡ attributes b
    node : Node
    at : map.get v.nodes f ≡ Some node
    view : b ≡ after_writes v.unstable node

  near_see : (f : ℕ) → Near (IsView f) (run sighted (see f)) (run (sight v) (see f))
  unfolding run
  near_see f = at (told f) (map.get v.nodes f) refl (told_same f)
    where
      at : (o p : Option Node) → map.get v.nodes f ≡ p → HaveAttributes o (seen_as v.unstable p) → Near (IsView f) (run sighted (node_or o)) (run (sight v) (node_or (seen_as v.unstable p)))
      at None None e s = refl
      at (Some n) (Some m) e s = record { same = s.same; node = m; at = e; view = refl }
      at None (Some m) e s = absurd s
      at (Some n) None e s = absurd s

  near_bytes : (f at count : ℕ) → Near (λ a b. a ≡ b) (run sighted (bytes_of f at count)) (run (sight v) (bytes_of f at count))
  unfolding run
  near_bytes f at count = all.bytes f at count

  near_verifier : Near (λ a b. a ≡ b) (run sighted verifier) (run (sight v) verifier)
  unfolding run
  near_verifier = all.verifier

  near_done : {A : Type 0} (R : A → A → Type 0) (a b : A) → R a b → Near R (run sighted (Done a)) (run (sight v) (Done b))
  unfolding run
  near_done R a b h = h

  -- what is answered is the same, and what is set of attributes makes the same volume
  record IsSame (a b : Outcome) : Type 0 where
    answer : a.answer ≡ b.answer
    volume : after_settings a.changes v ≡ after_changes b.changes v

  -- a node that is put, made from what was seen by what keeps all but attributes
  put_same : (f : ℕ) (F : Node → Node) → ((m n : Node) → with_attributes m (F n) ≡ F (with_attributes m n)) → (a b : Node) → IsView f a b
      → changed (setting_in v (PutNode a.fileid (F a))) v ≡ changed (PutNode b.fileid (F b)) v
  put_same f F keeps a b w =
      let own : b.fileid ≡ f = ap (λ (z : Node). z.fileid) w.view ∙ (writes_keep v.unstable w.node).alike.fileid ∙ (tree.tree.own f w.node w.at).fileid in
      let here : a.fileid ≡ f = ap (λ (z : Fattr). z.fileid) w.same ∙ own in
      let rest : with_attributes w.node a ≡ b = same_rest w.node a v.unstable (w.same ∙ ap attributes w.view) ∙ sym w.view in
      ap (λ x. changed (PutNode x (keeping (map.get v.nodes x) (F a))) v) here
      ∙ ap (λ o. changed (PutNode f (keeping o (F a))) v) w.at
      ∙ ap (λ z. changed (PutNode f z) v) (keeps w.node a ∙ ap F rest)
      ∙ ap (λ x. changed (PutNode x (F b)) v) (sym own)

  -- ---- composing

  near_same : {A B : Type 0} (S : B → B → Type 0) (p : Plan A) (f k : A → Plan B) → Near (λ a b. a ≡ b) (run sighted p) (run (sight v) p)
      → ((a : A) → Near S (run sighted (f a)) (run (sight v) (k a))) → Near S (run sighted (p >>= f)) (run (sight v) (p >>= k))
  near_same S p f k h next = near_both (λ a b. a ≡ b) S p f k h (λ a b e. subst (λ z. Near S (run sighted (f a)) (run (sight v) (k z))) e (next a))

  of_handle : (bytes : List ℕ) (f : Handle → Plan Outcome) → ((h : Handle) → Near IsSame (run sighted (f h)) (run (sight v) (f h))) → Near IsSame (run sighted (handle bytes >>= f)) (run (sight v) (handle bytes >>= f))
  of_handle bytes f k = near_same IsSame (handle bytes) f f (near_handle bytes) k

  of_object : (cred : Cred) (h : Handle) (p : Plan Outcome) → Near IsSame (run sighted p) (run (sight v) p) → Near IsSame (run sighted (object cred h >>= λ n. p)) (run (sight v) (object cred h >>= λ n. p))
  of_object cred h p k = near_then Any IsSame (object cred h) (λ n. p) (near_object cred h) (λ a b u. k)

  unless : (b : Bool) (s : Status) (p : Plan Outcome) → Near IsSame (run sighted p) (run (sight v) p) → Near IsSame (run sighted (refuse b s >>= λ u. p)) (run (sight v) (refuse b s >>= λ u. p))
  unless b s p k = near_then Any IsSame (refuse b s) (λ u. p) (near_refuse b s) (λ x y u. k)

  -- what follows from the attributes alone
  by_attributes : (f : ℕ) (R : Fattr → Plan Outcome) → ((a : Fattr) → Near IsSame (run sighted (R a)) (run (sight v) (R a)))
      → Near IsSame (run sighted (see f >>= λ n. R (attributes n))) (run (sight v) (see f >>= λ n. R (attributes n)))
  by_attributes f R k = near_then (IsView f) IsSame (see f) (λ n. R (attributes n)) (near_see f)
      (λ n m w. subst (λ z. Near IsSame (run sighted (R (attributes n))) (run (sight v) (R z))) w.same (k (attributes n)))

  answers : (r : Reply) → Near IsSame (run sighted (unchanged r)) (run (sight v) (unchanged r))
  unfolding run
  answers r = record { answer = refl; volume = refl }

  -- ---- the calls

  read_same : (cred : Cred) (h : Handle) (offset count : ℕ) → Near IsSame (run sighted (read cred h offset count)) (run (sight v) (read cred h offset count))
  read_same cred h offset count = of_object cred h _ (unless _ _ _ (by_attributes h.fileid found_by (λ a.
      near_same IsSame (bytes_of h.fileid offset (readable_by a)) _ _ (near_bytes h.fileid offset (readable_by a)) (λ found. answers _))))
    where
      readable_by : Fattr → ℕ
      readable_by a = min count (min (up_to_unit offset) (a.size - offset))

      found_by : Fattr → Plan Outcome
      found_by a = do
        found ← bytes_of h.fileid offset (readable_by a)
        unchanged (reply.Read (Ok (record { attributes = Some a; count = readable_by a; eof = nat_le a.size (offset + readable_by a); bytes = found })))

  commit_same : (cred : Cred) (h : Handle) → Near IsSame (run sighted (commit cred h)) (run (sight v) (commit cred h))
  commit_same cred h = of_object cred h _ (unless _ _ _ (near_then (IsView h.fileid) IsSame (see h.fileid) _ (near_see h.fileid) (λ n m w.
      near_same IsSame verifier _ _ near_verifier (λ x. near_done IsSame (committing n x) (committing m x) (record {
        answer = ap (λ (a : Fattr). reply.Commit (Ok (record { wcc = record { after = Some a }; verifier = x }))) w.same;
        volume = put_same h.fileid (λ z. z) (λ k l. refl) n m w;
      })))))

  module _ (f offset : ℕ) (bytes : List ℕ) (now : Time) (x : ℕ) where
    -- the attributes after the write
    abbrev written_by : Fattr → Fattr
    written_by a = record a { size = max a.size (offset + length bytes); used = max a.size (offset + length bytes); mtime = now; ctime = now }

    abbrev wrote_by : Stable → Fattr → Reply
    wrote_by committed a = reply.Write (Ok (record { wcc = record { after = Some (written_by a) }; count = length bytes; committed = committed; verifier = x }))

    writing_same : (b : Bool) (n m : Node) → IsView f n m → IsSame (cond b (unstable_write n offset bytes x now) (stable_write n offset bytes x now)) (cond b (unstable_write m offset bytes x now) (stable_write m offset bytes x now))
    writing_same true n m w = record {
      answer = ap (wrote_by stable.Unstable) w.same;
      volume = ap (λ (a : Fattr). changed (AddWrite (record { fileid = a.fileid; offset = offset; bytes = bytes; moment = now })) v) w.same;
    }
    writing_same false n m w = record {
      answer = ap (wrote_by stable.FileSync) w.same;
      volume = ap (changed (PutBytes n.fileid offset bytes)) (put_same f (written_to (offset + length bytes) now) (λ k l. refl) n m w)
          ∙ ap (λ (a : Fattr). changed (PutBytes a.fileid offset bytes) (changed (PutNode m.fileid (written_to (offset + length bytes) now m)) v)) w.same;
    }

  write_same : (h : Handle) (offset count : ℕ) (asked : Stable) (bytes : List ℕ) (now : Time) (choice : Choice) → Near IsSame (run sighted (write_in h offset count asked bytes now choice)) (run (sight v) (write_in h offset count asked bytes now choice))
  unfolding write_in
  write_same h offset count asked bytes now choice = either (count == 0)
    where
      none_by : Fattr → Plan Outcome
      none_by a = do
        x ← verifier
        unchanged (reply.Write (Ok (record { wcc = record { after = Some a }; count = 0; committed = asked; verifier = x })))

      either : (b : Bool) → Near IsSame (run sighted (cond b (write_none h asked) (write_at h offset count asked bytes now choice))) (run (sight v) (cond b (write_none h asked) (write_at h offset count asked bytes now choice)))
      either true = by_attributes h.fileid none_by (λ a. near_same IsSame verifier _ _ near_verifier (λ x. answers _))
      either false = unless _ _ _ (near_then (IsView h.fileid) IsSame (see h.fileid) _ (near_see h.fileid) (λ n m w.
          near_same IsSame verifier _ _ near_verifier (λ x. near_done IsSame (writing n offset (take (writable offset count) bytes) asked x now choice.kept) (writing m offset (take (writable offset count) bytes) asked x now choice.kept)
          (writing_same h.fileid offset (take (writable offset count) bytes) now x (is_unstable asked && not choice.kept) n m w))))

  lookup_same : (h : Handle) (d : Node) (name : List ℕ) → Near IsSame (run sighted (lookup_in h d name)) (run (sight v) (lookup_in h d name))
  unfolding lookup_in
  lookup_same h d name = dot (is_dot name)
    where
      found_by : Fattr → Plan Outcome
      found_by a = unchanged (looking.found (record { volume = a.fsid; fileid = a.fileid; kind = a.kind }) (Some a))

      named : Near IsSame (run sighted (lookup_name h name)) (run (sight v) (lookup_name h name))
      named = near_same IsSame (entry h.fileid name) _ _ (near_entry h.fileid name) (λ e. by_attributes e.fileid found_by (λ a. answers _))

      dots : (b : Bool) → Near IsSame (run sighted (cond b (unchanged (looking.found (directory_handle d.fsid d.parent) None)) (lookup_name h name))) (run (sight v) (cond b (unchanged (looking.found (directory_handle d.fsid d.parent) None)) (lookup_name h name)))
      dots true = answers _
      dots false = named

      dot : (b : Bool) → Near IsSame (run sighted (cond b (unchanged (looking.found (handle_to d) (Some (attributes d)))) (cond (is_dot_dot name) (unchanged (looking.found (directory_handle d.fsid d.parent) None)) (lookup_name h name))))
          (run (sight v) (cond b (unchanged (looking.found (handle_to d) (Some (attributes d)))) (cond (is_dot_dot name) (unchanged (looking.found (directory_handle d.fsid d.parent) None)) (lookup_name h name))))
      dot true = answers _
      dot false = dots (is_dot_dot name)

  calls_same : (c : Call) (cred : Cred) (now : Time) (choice : Choice) → asks_attributes c ≡ true → Near IsSame (run sighted (plan c cred now choice)) (run (sight v) (plan c cred now choice))
  calls_same (call.Getattr object) cred now choice q = of_handle object _ (λ h. of_object cred h _ (by_attributes h.fileid (λ a. unchanged (reply.Getattr (Ok a))) (λ a. answers _)))
  calls_same (call.Access object bits) cred now choice q = of_handle object _ (λ h. of_object cred h _
      (by_attributes h.fileid (λ a. unchanged (reply.Access (Ok (record { attributes = Some a; bits = bit_and bits 63 })))) (λ a. answers _)))
  calls_same (call.Read file offset count) cred now choice q = of_handle file _ (λ h. read_same cred h offset count)
  calls_same (call.Write file offset count asked bytes) cred now choice q = of_handle file _ (λ h. of_object cred h _ (unless _ _ _ (write_same h offset count asked bytes now choice)))
  calls_same (call.Commit file offset count) cred now choice q = of_handle file _ (λ h. commit_same cred h)
  calls_same call.Null cred now choice q = absurd cc
  calls_same (call.Setattr object attributes guard) cred now choice q = absurd cc
  calls_same (call.Lookup dir name) cred now choice q = of_handle dir _ (λ h. near_then Any IsSame (checked name) _ (near_checked name) (λ a b u. near_then Any IsSame (want (place h name)) _ (near_want _) (λ c d w.
      near_same IsSame (directory cred h) _ _ (near_directory cred h) (λ d. lookup_same h d name))))
  calls_same (call.Readlink link) cred now choice q = absurd cc
  calls_same (call.Create dir name how) cred now choice q = absurd cc
  calls_same (call.Mkdir dir name attributes) cred now choice q = absurd cc
  calls_same (call.Symlink dir name attributes path) cred now choice q = absurd cc
  calls_same (call.Mknod dir name what) cred now choice q = absurd cc
  calls_same (call.Remove dir name) cred now choice q = absurd cc
  calls_same (call.Rmdir dir name) cred now choice q = absurd cc
  calls_same (call.Rename from name to to_name) cred now choice q = absurd cc
  calls_same (call.Link file dir name) cred now choice q = absurd cc
  calls_same (call.Readdir dir cookie verifier count) cred now choice q = absurd cc
  calls_same (call.Readdirplus dir cookie verifier dircount maxcount) cred now choice q = absurd cc
  calls_same (call.Fsstat object) cred now choice q = absurd cc
  calls_same (call.Fsinfo object) cred now choice q = absurd cc
  calls_same (call.Pathconf object) cred now choice q = absurd cc

  right_set : (fault : Status → Reply) (x y : Result Outcome Status) → Near IsSame x y → IsRightSet v (effect_from fault x) (ends v fault y)
  right_set fault (Ok a) (Ok b) h = record { reply = h.answer; volume = h.volume }
  right_set fault (Err s) (Err t) h = record { reply = ap fault h; volume = refl }
  right_set fault (Ok a) (Err t) h = absurd h
  right_set fault (Err s) (Ok b) h = absurd h

  pub set_right : (c : Call) (cred : Cred) (now : Time) (choice : Choice) → asks_attributes c ≡ true → wanted g (plan c cred now choice) ≡ []
      → IsRightSet v (effect_from (fault c) (run (sight_in g) (plan c cred now choice))) (ends v (fault c) (run (sight v) (plan c cred now choice)))
  set_right c cred now choice q none =
      subst (λ r. IsRightSet v (effect_from (fault c) r) (ends v (fault c) (run (sight v) (plan c cred now choice)))) (sym (told_run (plan c cred now choice) none))
      (right_set (fault c) _ _ (calls_same c cred now choice q))

pub attributes_suffice : AttributesSuffice
unfolding perform
attributes_suffice v g c cred now choice t q all none = set_right v g t all c cred now choice q none
