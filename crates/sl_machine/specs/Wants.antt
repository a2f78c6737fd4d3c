-- What a waiting call wants next, by what it holds and was told. It has no stages: each case asks only what is still
-- missing.
use Rattle.std.specs.Prelude.{ℕ, ◌-◌, ◌==◌, List, [], ◌∷◌, Option, Some, None, Bool, true, false, not, ◌&&◌, ◌||◌, nat_le, nat_lt, length, take, filter, Ok, if◌then◌else◌}
use Rattle.std.specs.Bool.{beq}
use Rattle.std.specs.List.{list_any}
use Rattle.std.specs.Option.{unwrap_or}
use Rattle.std.specs.FinMap as map
use Rattle.sl_defs.specs.declared.setup.Setup.{Setup}
use Rattle.sl_defs.specs.declared.setup.Policy.{Policy}
use Rattle.sl_defs.specs.declared.setup.Policy.TheVariants as policy
use Rattle.sl_defs.specs.declared.setup.Time.{Time}
use Rattle.sl_defs.specs.declared.note.Choice.{Choice}
use Rattle.sl_types.specs.declared.attributes.Fattr.{Fattr}
use Rattle.sl_types.specs.declared.call.Call.{Call}
use Rattle.sl_types.specs.declared.call.Call.TheVariants as call
use Rattle.sl_types.specs.declared.call.Stable.{Stable}
use Rattle.sl_types.specs.declared.kind.Status.{Status}
use Rattle.sl_types.specs.declared.kind.Status.TheVariants as status
use Rattle.sl_types.specs.declared.handle.Handle.{Handle}
use Rattle.sl_types.specs.declared.reply.Reply.{Reply}
use Rattle.sl_types.specs.declared.reply.Reply.TheVariants as reply
use Rattle.sl_route.specs.declared.class.Class.TheVariants as class
use Rattle.sl_policy.specs.Sites.{object_site}
use Rattle.sl_model.specs.declared.node.Entry.{Entry}
use Rattle.sl_model.specs.Plan.{Key, NodeKey, NameKey}
use Rattle.sl_model.specs.Volume.{is_dir, is_reg, PutName}
use Rattle.sl_model.specs.Volume as volume
use Rattle.sl_model.specs.Looking.{Outcome}
use Rattle.sl_model.specs.Changing.{is_unstable, writable}
use Rattle.sl_model.specs.Gathered.{Gathered, missing, has_cell}
use Rattle.sl_model.specs.Procedures.{fault}
use Rattle.sl_model.specs.Laws.{status_of}
use Rattle.sl_frames.specs.declared.found.FoundCell.{FoundCell}
use Rattle.sl_cells.specs.declared.keys.CellKey.{CellKey}
use Rattle.sl_cells.specs.declared.changes.Change.{Change}
use Rattle.sl_frames.specs.declared.intent.Part.{Part}
use Rattle.sl_history.specs.Arrivals.{is_changing}
use Rattle.sl_history.specs.Legal.{no_choice}
use Rattle.sl_history.specs.Placing.{object_server, key_server, byte_server}
use Rattle.sl_machine.specs.Memory.{Hold, Told, Waiting, Proxy, Soft, soft_of, is_dirty, unstable_writes, lacking}
use Rattle.sl_machine.specs.Calls.{handles, refused, Place, sought, tree, takes_tree, hold, directories, objects, with_hold, both, plain}
use Rattle.sl_machine.specs.Knowing.{known, needed, entries_at, entry_at, each_once, key_of, effect}
use Rattle.sl_machine.specs.Parts.{cell_changes, going, Going, parts_of, write_parts, all_with, change_server, class_servers, is_write}

-- where the event of a reply lies: that of the answer that was just given, or this one
pub data Mark : Type 0 where
  AtAnswer : Mark
  AtOnce : Mark

-- a reply, and the choice of the effect that it ends, where there is one
pub record Ending : Type 0 where
  pub answer : Reply
  pub did : Option Choice
  pub mark : Mark

pub data Want : Type 0 where
  -- these locks, all at once
  Lock : List Hold → Want
  -- the proxy's own attributes of a file
  Recall : ℕ → Want
  -- a file's unstable writes made stable first
  FlushFirst : ℕ → Want
  -- cells of one server
  AskFor : ℕ → List Key → Want
  -- a directory's names of one server: behind a cookie, up to a limit
  ListFrom : ℕ → ℕ → ℕ → ℕ → Want
  -- a fresh fileid of a site
  MintAt : ℕ → Want
  -- one server's answer to the call itself: a look, a READ of so many bytes, a WRITE of the first so many, or an effect
  -- on that server alone with this fileid
  ForwardLook : ℕ → Want
  ForwardRead : ℕ → ℕ → Want
  ForwardWrite : ℕ → ℕ → Want
  ForwardEffect : ℕ → ℕ → Want
  -- an effect on several servers
  Operate : Choice → List Part → Want
  -- the reply
  Answer : Ending → Want

abbrev pub plainly : Mark → Reply → Want
plainly mark r = Answer (record { answer = r; did = None; mark = mark })

-- a call that may change something, and changes nothing
abbrev pub with_did : Choice → Reply → Want
with_did choice r = Answer (record { answer = r; did = Some choice; mark = AtOnce })

abbrev pub or_want : Option Want → Want → Want
or_want None other = other
or_want (Some w) other = w

abbrev pub lock_first : List Hold → List Hold → Option Want
lock_first held wants = if length (lacking held wants) == 0 then None else Some (Lock wants)

-- ---- requests for cells

-- the keys that one server has
abbrev pub with_server : Setup → ℕ → List Key → List Key
with_server s server ks = filter (λ k. key_server s k == server) ks

-- The first key's server is asked, for all of the keys that it has.
abbrev pub ask_first : Setup → List Key → Option Want
ask_first s [] = None
ask_first s (k ∷ ks) = Some (AskFor (key_server s k) (with_server s (key_server s k) (k ∷ ks)))

abbrev pub object_keys : List Hold → List Key
object_keys [] = []
object_keys (h ∷ hs) = NodeKey h.key.fileid ∷ object_keys hs

abbrev pub place_keys : List Place → List Key
place_keys [] = []
place_keys (p ∷ ps) = NameKey p.dir p.name ∷ NodeKey p.dir ∷ place_keys ps

-- The names of a call and their directories; of a call that looks none up, the directories of its handles.
abbrev pub first_keys : Call → List Key
first_keys c = if length (sought c) == 0 then object_keys (directories c) else each_once (place_keys (sought c))

-- ---- locks of what the names lead to

abbrev pub found_holds : Call → Bool → List Entry → List Hold
found_holds c dir [] = []
found_holds c dir (e ∷ es) = if beq (is_dir e.kind) dir then with_hold (hold c dir e.fileid) (found_holds c dir es) else found_holds c dir es

abbrev pub all_holds : List Hold → List Hold → List Hold
all_holds [] hs = hs
all_holds (g ∷ gs) hs = with_hold g (all_holds gs hs)

-- the directories that a call on the tree's shape finds
abbrev pub found_directories : Call → Gathered → List Hold
found_directories c g = if takes_tree c then found_holds c true (entries_at g (sought c)) else []

-- the other objects of a call: those of its handles, and those that its names lead to
abbrev pub all_objects : Call → Gathered → List Hold
all_objects c g = all_holds (objects c) (found_holds c false (entries_at g (sought c)))

-- ---- files with unstable writes are flushed first, by rising fileid

abbrev pub lesser : ℕ → Option ℕ → Option ℕ
lesser f None = Some f
lesser f (Some g) = if nat_lt g f then Some g else Some f

abbrev pub least_dirty : Soft → List Hold → Option ℕ
least_dirty s [] = None
least_dirty s (h ∷ hs) = if is_dirty s h.key.fileid then lesser h.key.fileid (least_dirty s hs) else least_dirty s hs

abbrev pub flush_by : Option ℕ → Option Want
flush_by None = None
flush_by (Some f) = Some (FlushFirst f)

abbrev pub flush_first : Soft → List Hold → Option Want
flush_first s hs = flush_by (least_dirty s hs)

-- ---- attributes of a regular file that the proxy has itself

abbrev pub recall_by : ℕ → Option Fattr → Option Want
recall_by f None = None
recall_by f (Some a) = Some (Recall f)

abbrev pub recall : Soft → Handle → Option Want
recall s h = if is_reg h.kind then recall_by h.fileid (soft_of s h.fileid) else None

-- the cell of an object, from the proxy's own attributes where it has them
abbrev pub cell_first : Setup → Soft → Gathered → Handle → Option Want
cell_first setup s g h = if has_cell g.cells (NodeKey h.fileid) then None else Some (or_want (recall s h) (AskFor (object_server setup h.fileid) (NodeKey h.fileid ∷ [])))

-- the reply's event: that of the cell's answer, unless the attributes were the proxy's own
abbrev pub mark_by : Option Fattr → Mark
mark_by None = AtAnswer
mark_by (Some a) = AtOnce

abbrev pub mark_of : Told → Mark
mark_of t = mark_by t.attributes

-- ---- a call, with everything that it knows

pub record Knowing : Type 0 where
  pub setup : Setup
  pub proxy : Proxy
  pub now : Time
  pub call : Waiting
  pub gathered : Gathered

abbrev pub knowing : Setup → Proxy → Time → Waiting → Knowing
knowing setup p now w = record { setup = setup; proxy = p; now = now; call = w; gathered = known p.fence w.told }

abbrev pub the_call : Knowing → Call
the_call k = k.call.asked.call

abbrev pub effect_with : Knowing → Choice → Outcome
effect_with k choice = effect k.gathered (sought (the_call k)) (the_call k) k.call.asked.cred k.now choice

abbrev pub needs : Knowing → Choice → List Key
needs k choice = needed k.gathered (the_call k) k.call.asked.cred k.now choice

-- ---- GETATTR, ACCESS, READLINK, FSSTAT, FSINFO and PATHCONF: the object's server answers

abbrev pub is_getattr : Call → Bool
is_getattr (call.Getattr object) = true
is_getattr other = false

abbrev pub wants_look : Knowing → Handle → Want
wants_look k h =
    if has_cell k.gathered.cells (NodeKey h.fileid) then plainly AtOnce (effect_with k no_choice).answer
    else or_want (if is_getattr (the_call k) then recall k.proxy.soft h else None) (ForwardLook (object_server k.setup h.fileid))

-- ---- READ

abbrev pub wants_read : Knowing → Handle → ℕ → Reply → Want
wants_read k h offset (reply.Read (Ok r)) = ForwardRead (byte_server k.setup h.fileid offset) r.count
wants_read k h offset other = plainly AtAnswer other

-- ---- WRITE

-- so many unstable writes a file may have, and so many files
abbrev pub most_writes : ℕ
most_writes = 32

abbrev pub most_dirty : ℕ
most_dirty = 1024

-- The write can't stay unstable: the caller asks for more, no place was left for its answer, or none is.
abbrev pub must_keep : Knowing → Handle → Stable → Bool
must_keep k h asked =
    not (is_unstable asked) || (k.call.told.full || (not (is_dirty k.proxy.soft h.fileid) && nat_le most_dirty (map.len k.proxy.soft.dirty)))

abbrev pub kept_choice : Choice
kept_choice = record { fileid = 0; kept = true }

abbrev pub stable_write : Knowing → Handle → ℕ → List ℕ → Want
stable_write k h offset bytes =
    Operate kept_choice (write_parts k.setup (cell_changes k.gathered (the_call k) (effect_with k kept_choice).changes) h.fileid offset bytes)

abbrev pub wants_bytes : Knowing → Handle → ℕ → ℕ → Stable → List ℕ → Want
wants_bytes k h offset count asked bytes =
    if must_keep k h asked then stable_write k h offset (take (writable offset count) bytes)
    else if nat_le most_writes (unstable_writes k.proxy.soft h.fileid) then FlushFirst h.fileid
    else ForwardWrite (byte_server k.setup h.fileid offset) (writable offset count)

abbrev pub wants_write : Knowing → Handle → ℕ → ℕ → Stable → List ℕ → Outcome → Want
wants_write k h offset count asked bytes o = if length o.changes == 0 then with_did no_choice o.answer else wants_bytes k h offset count asked bytes

-- ---- LOOKUP

-- the name, with the directory's cell where one server has both; then, of an absent name, the directory's cell
abbrev pub lookup_keys : Knowing → Place → List Key
lookup_keys k p =
    if has_cell k.gathered.cells (NameKey p.dir p.name) then missing k.gathered.cells (NodeKey p.dir ∷ [])
    else NameKey p.dir p.name ∷ (if key_server k.setup (NameKey p.dir p.name) == key_server k.setup (NodeKey p.dir) then NodeKey p.dir ∷ [] else [])

abbrev pub found_handle : Knowing → Entry → Handle
found_handle k e = record { volume = k.setup.volume; fileid = e.fileid; kind = e.kind }

abbrev pub wants_found : Knowing → Entry → Want
wants_found k e =
    or_want (if is_dir e.kind then None else lock_first k.call.held (hold (the_call k) false e.fileid ∷ []))
    (or_want (cell_first k.setup k.proxy.soft k.gathered (found_handle k e)) (plainly (mark_of k.call.told) (effect_with k no_choice).answer))

abbrev pub absent_or : Knowing → Place → Option Entry → Want
absent_or k p (Some e) = wants_found k e
absent_or k p None = or_want (ask_first k.setup (lookup_keys k p)) (plainly AtAnswer (effect_with k no_choice).answer)

-- a handle that is no directory's, or `.` or `..`: the handle's cell alone
abbrev pub wants_own : Knowing → Want
wants_own k = or_want (ask_first k.setup (needs k no_choice)) (plainly AtAnswer (effect_with k no_choice).answer)

abbrev pub wants_lookup : Knowing → List Place → Want
wants_lookup k [] = wants_own k
wants_lookup k (p ∷ ps) = absent_or k p (entry_at k.gathered p)

-- ---- READDIR and READDIRPLUS: the directory's cell, then its names

abbrev pub listing_limit : ℕ → ℕ
listing_limit count = if nat_lt 8192 count then 8192 else count

-- the servers that have names of a directory
abbrev pub name_servers : Setup → Policy → ℕ → List ℕ
name_servers s policy.Hash d = class_servers s class.Dir
name_servers s (policy.Switch p) d = object_server s d ∷ []

abbrev pub nth_server : List ℕ → ℕ → Option ℕ
nth_server [] n = None
nth_server (a ∷ others) n = if n == 0 then Some a else nth_server others (n - 1)

abbrev pub list_from : ℕ → ℕ → ℕ → Option ℕ → Option Want
list_from d cookie limit None = None
list_from d cookie limit (Some server) = Some (ListFrom server d cookie limit)

-- the listing fails whatever the names are
abbrev pub fails_alone : Status → Bool
fails_alone status.Stale = true
fails_alone status.NotDir = true
fails_alone status.BadCookie = true
fails_alone other = false

abbrev pub next_names : Knowing → Handle → ℕ → ℕ → Option Want
next_names k h cookie count = list_from h.fileid cookie (listing_limit count) (nth_server (name_servers k.setup k.setup.policy h.fileid) (length k.call.told.names))

abbrev pub wants_names : Knowing → ℕ → ℕ → Handle → Want
wants_names k cookie count h =
    or_want (ask_first k.setup (missing k.gathered.cells (NodeKey h.fileid ∷ [])))
    (or_want (if fails_alone (status_of (effect_with k no_choice).answer) then None else next_names k h cookie count)
    (plainly AtAnswer (effect_with k no_choice).answer))

-- ---- the other calls that may change something: cells first, then locks and flushes, and what the effect still needs

abbrev pub entry_keys : List Entry → List Key
entry_keys [] = []
entry_keys (e ∷ es) = NodeKey e.fileid ∷ entry_keys es

abbrev pub renamed_keys : Call → Gathered → List Key
renamed_keys (call.Rename from name to to_name) g = each_once (entry_keys (entries_at g (both (plain from name) (plain to to_name))))
renamed_keys other g = []

abbrev pub or_keys : List Key → List Key → List Key
or_keys [] other = other
or_keys (k ∷ ks) other = k ∷ ks

-- RENAME asks for both objects before it climbs
abbrev pub more_keys : Knowing → List Key → List Key
more_keys k [] = []
more_keys k (needed ∷ rest) = or_keys (missing k.gathered.cells (renamed_keys (the_call k) k.gathered)) (needed ∷ rest)

-- a call that makes an object, and one that makes a directory
abbrev pub is_making : Call → Bool
is_making (call.Create dir name how) = true
is_making (call.Mkdir dir name attributes) = true
is_making (call.Symlink dir name attributes path) = true
is_making (call.Mknod dir name what) = true
is_making other = false

abbrev pub makes_directory : Call → Bool
makes_directory (call.Mkdir dir name attributes) = true
makes_directory other = false

abbrev pub is_put_name : volume.Change → Bool
is_put_name (PutName d name e) = true
is_put_name other = false

abbrev pub some_choice : Choice
some_choice = record { fileid = 1; kept = false }

-- with a fileid it would make something
abbrev pub would_make : Knowing → Bool
would_make k = is_making (the_call k) && list_any is_put_name (effect_with k some_choice).changes

abbrev pub site_at : Setup → Call → List Place → ℕ
site_at s c [] = 0
site_at s c (p ∷ ps) = object_site s.policy p.dir p.name (makes_directory c)

abbrev pub mint_first : Knowing → Option ℕ → Option Want
mint_first k (Some f) = None
mint_first k None = if would_make k then Some (MintAt (site_at k.setup (the_call k) (sought (the_call k)))) else None

-- a new object is locked too
abbrev pub new_holds : Call → Option ℕ → List Hold
new_holds c None = []
new_holds c (Some f) = if f == 0 then [] else hold c (makes_directory c) f ∷ []

abbrev pub chosen : Told → Choice
chosen t = record { fileid = unwrap_or t.minted 0; kept = false }

abbrev pub told_keys : List (CellKey × FoundCell) → List Key
told_keys [] = []
told_keys (c ∷ cs) = key_of c.0 ∷ told_keys cs

-- a directory goes to another directory
abbrev pub is_dir_entry : Option Entry → Bool
is_dir_entry None = false
is_dir_entry (Some e) = is_dir e.kind

abbrev pub moves_directory : Gathered → List Place → Bool
moves_directory g (p ∷ q ∷ ps) = not (p.dir == q.dir) && is_dir_entry (entry_at g p)
moves_directory g other = false

abbrev pub first_server_of : Setup → List Change → ℕ
first_server_of s [] = 0
first_server_of s (c ∷ cs) = change_server s c

-- one directory server has all that is asked for and changes, and does it alone
abbrev pub is_direct : Knowing → List Change → List Going → Bool
is_direct k cs xs =
    length xs == 0 && (not (moves_directory k.gathered (sought (the_call k))) && all_with k.setup (first_server_of k.setup cs) (told_keys k.call.told.cells) cs)

abbrev pub carry_out : Knowing → Choice → List Change → List Going → Want
carry_out k choice cs xs = if is_direct k cs xs then ForwardEffect (first_server_of k.setup cs) choice.fileid else Operate choice (parts_of k.setup cs xs)

abbrev pub wants_effect : Knowing → Choice → Outcome → Want
wants_effect k choice o =
    if length o.changes == 0 then with_did choice o.answer else carry_out k choice (cell_changes k.gathered (the_call k) o.changes) (going k.gathered o.changes)

abbrev pub wants_change : Knowing → Want
wants_change k =
    or_want (ask_first k.setup (missing k.gathered.cells (first_keys (the_call k))))
    (or_want (lock_first k.call.held (found_directories (the_call k) k.gathered))
    (or_want (lock_first k.call.held (all_objects (the_call k) k.gathered))
    (or_want (flush_first k.proxy.soft (all_objects (the_call k) k.gathered))
    (or_want (ask_first k.setup (more_keys k (needs k no_choice)))
    (or_want (mint_first k k.call.told.minted)
    (or_want (lock_first k.call.held (new_holds (the_call k) k.call.told.minted))
    (wants_effect k (chosen k.call.told) (effect_with k (chosen k.call.told)))))))))

-- ---- each procedure

abbrev pub first_of : List Handle → (Handle → Want) → Want → Want
first_of [] f none = none
first_of (h ∷ hs) f none = f h

abbrev pub flush_own : Soft → Bool → Handle → Option Want
flush_own s due h = if due && (not (is_dir h.kind) && is_dirty s h.fileid) then Some (FlushFirst h.fileid) else None

abbrev pub reads : Knowing → ℕ → Handle → Want
reads k offset h = or_want (cell_first k.setup k.proxy.soft k.gathered h) (wants_read k h offset (effect_with k no_choice).answer)

abbrev pub writes : Knowing → ℕ → ℕ → Stable → List ℕ → Handle → Want
writes k offset count asked bytes h =
    or_want (flush_own k.proxy.soft (not (is_unstable asked)) h)
    (or_want (cell_first k.setup k.proxy.soft k.gathered h) (wants_write k h offset count asked bytes (effect_with k no_choice)))

abbrev pub commits : Knowing → Handle → Want
commits k h =
    or_want (flush_own k.proxy.soft true h)
    (or_want (cell_first k.setup k.proxy.soft k.gathered h) (plainly (mark_of k.call.told) (effect_with k no_choice).answer))

-- what a call wants that holds the locks of its handles
abbrev pub wants_held : Knowing → Call → Want
wants_held k (call.Lookup dir name) = wants_lookup k (sought (call.Lookup dir name))
wants_held k (call.Read file offset count) = first_of (handles (call.Read file offset count)) (reads k offset) (wants_own k)
wants_held k (call.Write file offset count asked bytes) = first_of (handles (call.Write file offset count asked bytes)) (writes k offset count asked bytes) (wants_own k)
wants_held k (call.Readdir dir cookie verifier count) = first_of (handles (call.Readdir dir cookie verifier count)) (wants_names k cookie count) (wants_own k)
wants_held k (call.Readdirplus dir cookie verifier dircount maxcount) = first_of (handles (call.Readdirplus dir cookie verifier dircount maxcount)) (wants_names k cookie maxcount) (wants_own k)
wants_held k (call.Commit file offset count) = first_of (handles (call.Commit file offset count)) (commits k) (wants_own k)
wants_held k c = if is_changing c then wants_change k else first_of (handles c) (wants_look k) (wants_own k)

-- The tree, then the directories; the objects of its handles at once, but of a call that may find others on its way.
abbrev pub finds_others : Call → Bool
finds_others c = is_changing c && not (is_write c)

abbrev pub wants_locks : Knowing → Call → Want
wants_locks k c =
    or_want (if takes_tree c then lock_first k.call.held (tree ∷ []) else None)
    (or_want (lock_first k.call.held (directories c))
    (or_want (if finds_others c then None else lock_first k.call.held (objects c))
    (wants_held k c)))

abbrev pub refuses : Knowing → Option Status → Want
refuses k None = wants_locks k (the_call k)
refuses k (Some s) = if is_changing (the_call k) then with_did no_choice (fault (the_call k) s) else plainly AtOnce (fault (the_call k) s)

-- What the call wants next.
unfoldable pub wants : Setup → Proxy → Time → Waiting → Want
wants setup p now w = refuses (knowing setup p now w) (refused setup w.asked.call w.asked.cred now)
