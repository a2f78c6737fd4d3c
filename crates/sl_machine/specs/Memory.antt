-- What actors hold in memory. What their records already say isn't repeated there.
use Rattle.std.specs.Prelude.{ℕ, ◌+◌, ◌==◌, List, [], ◌∷◌, Option, Some, None, Bool, false, not, ◌&&◌, ◌||◌, nat_lt, min, filter, take, if◌then◌else◌}
use Rattle.std.specs.Bool.{beq}
use Rattle.std.specs.List.{list_any}
use Rattle.std.specs.Ordering.{nat_cmp}
use Rattle.std.specs.FinMap.{FinMap}
use Rattle.std.specs.FinMap as map
use Rattle.sl_types.specs.declared.attributes.Fattr.{Fattr}
use Rattle.sl_types.specs.declared.writes.Write.{Write}
use Rattle.sl_cells.specs.declared.cells.NameCell.{NameCell}
use Rattle.sl_cells.specs.declared.keys.CellKey.{CellKey}
use Rattle.sl_frames.specs.declared.found.FoundCell.{FoundCell}
use Rattle.sl_frames.specs.declared.frame.Frame.{Frame}
use Rattle.sl_frames.specs.declared.body.Body.{Body}
use Rattle.sl_history.specs.Arrivals.{Asked}
use Rattle.sl_machine.specs.Records.{Record}

-- ---- servers and the coordinator

-- What every actor but the proxy holds: the greatest fence that it has seen; the least tag that the proxy still waits
-- for, under that fence; the answers that are kept, by tag; and the frames that are parked, in their order.
pub record Site : Type 0 where
  pub fence : ℕ
  pub low : ℕ
  pub kept : FinMap nat_cmp Frame
  pub parked : List Frame

-- bytes of a file that were written and aren't stable
pub record Buffered : Type 0 where
  pub fileid : ℕ
  pub write : Write

-- a data server: its buffered writes, the oldest first
pub record Store : Type 0 where
  pub site : Site
  pub buffered : List Buffered

-- a server's word on an operation
pub record Vote : Type 0 where
  pub op : ℕ
  pub server : ℕ

-- The coordinator: the Intents that wait to be started, in their order; who granted and who acknowledged which operation;
-- whether a Welcome is owed; and whether the proxy was heard since the opening, under a fence that isn't old.
pub record Coord : Type 0 where
  pub site : Site
  pub queue : List Frame
  pub granted : List Vote
  pub acknowledged : List Vote
  pub owes : Bool
  pub heard : Bool

-- ---- the proxy

-- What is locked: an object, and whether it is taken for a directory. Directory 0 is the whole tree.
pub record LockKey : Type 0 where
  pub fileid : ℕ
  pub dir : Bool

-- a lock, and whether nobody else may hold it
pub record Hold : Type 0 where
  pub key : LockKey
  pub alone : Bool

-- names of a directory, as one server has them
pub record ServerNames : Type 0 where
  pub cells : List NameCell
  pub more : Bool

-- What a call was told so far: cells, with the keys that they were asked for by; names; a fresh fileid, 0 where none was
-- left; which files were flushed for it; the attributes that the proxy had itself; and that no unstable write is taken
-- any more.
pub record Told : Type 0 where
  pub cells : List (CellKey × FoundCell)
  pub names : List ServerNames
  pub minted : Option ℕ
  pub attributes : Option Fattr
  pub full : Bool

abbrev pub nothing_told : Told
nothing_told = record { cells = []; names = []; minted = None; attributes = None; full = false }

-- a request that has no answer yet
pub record Request : Type 0 where
  pub tag : ℕ
  pub to : ℕ
  pub boot : ℕ
  pub «body» : Body

-- A call that waits: whose it is, its datagram, the locks that it holds and those that it waits for, its request, what it
-- was told, and the event that sent the last answer to it, 0 for none.
pub record Waiting : Type 0 where
  pub client : ℕ
  pub packet : List ℕ
  pub asked : Asked
  pub held : List Hold
  pub awaits : List Hold
  pub request : Option Request
  pub told : Told
  pub answered : ℕ

-- attributes after a file's unstable writes, how many they are, and which data servers have them
pub record Dirty : Type 0 where
  pub attributes : Fattr
  pub writes : ℕ
  pub servers : List ℕ

-- The proxy's own attributes of regular files: of those without unstable writes the one that was used last first.
pub record Soft : Type 0 where
  pub clean : List Fattr
  pub dirty : FinMap nat_cmp Dirty

abbrev pub no_soft : Soft
no_soft = record { clean = []; dirty = map.empty }

-- The proxy: its fence, whether it was welcomed, the calls by their arrivals, the soft attributes, the boots of data
-- servers that it relies on, and the next request's tag.
pub record Proxy : Type 0 where
  pub fence : ℕ
  pub welcomed : Bool
  pub pending : FinMap nat_cmp Waiting
  pub soft : Soft
  pub boots : FinMap nat_cmp ℕ
  pub next_tag : ℕ

-- ---- an actor

pub data Memory : Type 0 where
  OfProxy : Proxy → Memory
  OfCoord : Coord → Memory
  OfSite : Site → Memory
  OfStore : Store → Memory

-- An actor is up where it has a memory. A record whose append was cut is in limbo until an opening has found it or not.
pub record Actor : Type 0 where
  pub memory : Option Memory
  pub records : List Record
  pub limbo : Option Record

-- ---- soft attributes

-- so many files are remembered without unstable writes
abbrev pub most_clean : ℕ
most_clean = 4096

abbrev pub is_of : ℕ → Fattr → Bool
is_of f a = a.fileid == f

abbrev pub without_clean : ℕ → List Fattr → List Fattr
without_clean f clean = filter (λ a. not (is_of f a)) clean

abbrev pub clean_of : List Fattr → ℕ → Option Fattr
clean_of [] f = None
clean_of (a ∷ others) f = if is_of f a then Some a else clean_of others f

abbrev pub dirty_attributes : Option Dirty → Option Fattr → Option Fattr
dirty_attributes (Some d) clean = Some d.attributes
dirty_attributes None clean = clean

-- the attributes that the proxy has of a file
abbrev pub soft_of : Soft → ℕ → Option Fattr
soft_of s f = dirty_attributes (map.get s.dirty f) (clean_of s.clean f)

abbrev pub is_dirty : Soft → ℕ → Bool
is_dirty s f = map.contains_key s.dirty f

abbrev pub writes_by : Option Dirty → ℕ
writes_by None = 0
writes_by (Some d) = d.writes

-- how many unstable writes a file has
abbrev pub unstable_writes : Soft → ℕ → ℕ
unstable_writes s f = writes_by (map.get s.dirty f)

abbrev pub dirty_servers : Option Dirty → List ℕ
dirty_servers None = []
dirty_servers (Some d) = d.servers

-- the file is remembered with these attributes, and was used last; the one that wasn't used for longest goes
abbrev pub remembered : Fattr → Soft → Soft
remembered a s = record s { clean = take most_clean (a ∷ without_clean a.fileid s.clean) }

-- a file with unstable writes keeps them
abbrev pub learnt : Fattr → Soft → Soft
learnt a s = if is_dirty s a.fileid then s else remembered a s

abbrev pub touched_by : Option Fattr → Soft → Soft
touched_by None s = s
touched_by (Some a) s = remembered a s

-- a remembered file was used last
abbrev pub touched : ℕ → Soft → Soft
touched f s = touched_by (clean_of s.clean f) s

-- nothing is remembered of the file
abbrev pub gone : ℕ → Soft → Soft
gone f s = record s { clean = without_clean f s.clean; dirty = map.remove s.dirty f }

abbrev pub flushed_by : Option Dirty → Soft → Soft
flushed_by None s = s
flushed_by (Some d) s = remembered d.attributes s

-- the unstable writes of the file are stable
abbrev pub flushed : ℕ → Soft → Soft
flushed f s = flushed_by (map.get s.dirty f) (record s { dirty = map.remove s.dirty f })

-- into a list of servers by rising number, each once
abbrev pub with_server : ℕ → List ℕ → List ℕ
with_server a [] = a ∷ []
with_server a (b ∷ bs) = if nat_lt a b then a ∷ b ∷ bs else if a == b then b ∷ bs else b ∷ with_server a bs

-- one unstable write more, which this server has
abbrev pub written : Fattr → ℕ → Soft → Soft
written a server s = record s {
  clean = without_clean a.fileid s.clean;
  dirty = map.insert s.dirty a.fileid (record { attributes = a; writes = unstable_writes s a.fileid + 1; servers = with_server server (dirty_servers (map.get s.dirty a.fileid)) });
}

-- ---- locks

abbrev pub same_key : LockKey → LockKey → Bool
same_key a b = a.fileid == b.fileid && beq a.dir b.dir

-- the call holds this key, and alone where that is asked for
abbrev pub covers : Hold → Hold → Bool
covers want held = same_key want.key held.key && (held.alone || not want.alone)

abbrev pub is_held : List Hold → Hold → Bool
is_held held want = list_any (covers want) held

-- those that aren't held yet
abbrev pub lacking : List Hold → List Hold → List Hold
lacking held wants = filter (λ want. not (is_held held want)) wants

-- two calls can't hold both
abbrev pub conflict : Hold → Hold → Bool
conflict a b = same_key a.key b.key && (a.alone || b.alone)

abbrev pub conflicts : List Hold → List Hold → Bool
conflicts wants held = list_any (λ want. list_any (conflict want) held) wants

abbrev pub is_taken : ℕ → List Hold → List (ℕ × Waiting) → Bool
is_taken n wants [] = false
is_taken n wants (c ∷ cs) = (not (c.0 == n) && conflicts wants c.1.held) || is_taken n wants cs

-- no other call holds what conflicts with these
abbrev pub are_free : FinMap nat_cmp Waiting → ℕ → List Hold → Bool
are_free pending n wants = not (is_taken n wants (map.entries pending))

-- ---- tags

abbrev pub tag_of : Option Request → Option ℕ
tag_of None = None
tag_of (Some r) = Some r.tag

abbrev pub least_tag : Option ℕ → ℕ → ℕ
least_tag None low = low
least_tag (Some tag) low = min tag low

abbrev pub low_among : List (ℕ × Waiting) → ℕ → ℕ
low_among [] low = low
low_among (c ∷ cs) low = least_tag (tag_of c.1.request) (low_among cs low)

-- the least tag that is waited for, else the next one
abbrev pub low_of : Proxy → ℕ
low_of p = low_among (map.entries p.pending) p.next_tag

abbrev pub has_tag : ℕ → Option Request → Bool
has_tag tag None = false
has_tag tag (Some r) = r.tag == tag

-- the call whose request has this tag
abbrev pub with_tag : ℕ → List (ℕ × Waiting) → Option (ℕ × Waiting)
with_tag tag [] = None
with_tag tag (c ∷ cs) = if has_tag tag c.1.request then Some c else with_tag tag cs
