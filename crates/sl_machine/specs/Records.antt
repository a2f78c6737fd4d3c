-- What the records on the actors' disks stand for. Records are listed the newest first.
use Rattle.std.specs.Prelude.{ℕ, ◌+◌, ◌-◌, ◌*◌, ◌%◌, ◌^◌, ◌==◌, List, [], ◌∷◌, ◌++◌, Option, Some, None, Bool, true, false, ◌||◌, max, if◌then◌else◌}
use Rattle.std.specs.Option.{unwrap_or}
use Rattle.std.specs.Ordering.{nat_cmp}
use Rattle.std.specs.FinMap.{FinMap}
use Rattle.std.specs.FinMap as map
use Rattle.sl_types.specs.declared.attributes.Fattr.{Fattr}
use Rattle.sl_types.specs.declared.writes.Write.{Write}
use Rattle.sl_model.specs.Volume.{name_cmp, place_cmp, put_bytes, cut_at}
use Rattle.sl_model.specs.Perform.{new_root}
use Rattle.sl_model.specs.Looking.{attributes}
use Rattle.sl_policy.specs.Sites.{site_of}
use Rattle.sl_cells.specs.declared.cells.AttrCell.{AttrCell}
use Rattle.sl_cells.specs.declared.cells.NameCell.{NameCell}
use Rattle.sl_cells.specs.declared.keys.CellKey.{CellKey}
use Rattle.sl_cells.specs.declared.keys.CellKey.TheVariants as key
use Rattle.sl_cells.specs.declared.changes.Change.{Change}
use Rattle.sl_cells.specs.declared.changes.Change.TheVariants as change
use Rattle.sl_frames.specs.declared.found.FoundCell.{FoundCell}
use Rattle.sl_frames.specs.declared.found.FoundCell.TheVariants as found
use Rattle.sl_frames.specs.declared.work.Work.{Work}
use Rattle.sl_frames.specs.declared.work.Work.TheVariants as work
use Rattle.sl_records.specs.declared.proxy.ProxyRecord.{ProxyRecord}
use Rattle.sl_records.specs.declared.proxy.ProxyRecord.TheVariants as proxy
use Rattle.sl_records.specs.declared.started.Started.{Started}
use Rattle.sl_records.specs.declared.coordinator.LogEntry.{LogEntry}
use Rattle.sl_records.specs.declared.coordinator.LogEntry.TheVariants as log
use Rattle.sl_records.specs.declared.directory.DirRecord.{DirRecord}
use Rattle.sl_records.specs.declared.directory.DirRecord.TheVariants as dir
use Rattle.sl_records.specs.declared.data_server.DataRecord.{DataRecord}
use Rattle.sl_records.specs.declared.data_server.DataRecord.TheVariants as store
use Rattle.sl_history.specs.Frames.{or_else}

-- a record of some actor's journal
pub data Record : Type 0 where
  OfProxy : ProxyRecord → Record
  OfLog : LogEntry → Record
  OfDir : DirRecord → Record
  OfData : DataRecord → Record

-- the newest record's word of a kind
abbrev pub latest : {A : Type 0} → (Record → Option A) → List Record → Option A
latest word [] = None
latest word (r ∷ rs) = or_else (word r) (latest word rs)

-- ---- counts

-- the proxy's count of starts, and a data server's boot
abbrev pub start_in : Record → Option ℕ
start_in (OfProxy (proxy.Start count)) = Some count
start_in other = None

abbrev pub boot_in : Record → Option ℕ
boot_in (OfData (store.Boot boot)) = Some boot
boot_in other = None

abbrev pub starts_of : List Record → ℕ
starts_of rs = unwrap_or (latest start_in rs) 0

abbrev pub boot_of : List Record → ℕ
boot_of rs = unwrap_or (latest boot_in rs) 0

-- A fence is a start and an epoch, of 32 bits each. This is the first of a start, and the last.
abbrev pub first_fence : ℕ → ℕ
first_fence start = start * 2 ^ 32

abbrev pub is_last_epoch : ℕ → Bool
is_last_epoch fence = fence % 2 ^ 32 == 2 ^ 32 - 1

-- ---- fences

abbrev pub fence_in : Record → Option ℕ
fence_in (OfLog (log.Fence fence)) = Some fence
fence_in (OfDir (dir.Fence fence)) = Some fence
fence_in other = None

-- the greatest fence that the records have
abbrev pub fence_of : List Record → ℕ
fence_of rs = unwrap_or (latest fence_in rs) 0

-- ---- operations

-- an operation that a server is locked for: its number, the fence of its intent, and the server's work
pub record Held : Type 0 where
  pub op : ℕ
  pub fence : ℕ
  pub work : Work

abbrev pub lock_in : Record → Option Held
lock_in (OfDir (dir.Lock op fence w)) = Some (record { op = op; fence = fence; work = w })
lock_in (OfData (store.Lock op fence w)) = Some (record { op = op; fence = fence; work = w })
lock_in other = None

-- a finished operation, and whether its work was done
abbrev pub finish_in : Record → Option (ℕ × Bool)
finish_in (OfDir (dir.Finish op applied)) = Some (op, applied)
finish_in (OfData (store.Finish op applied)) = Some (op, applied)
finish_in other = None

abbrev pub locked_after : Option Held → Option (ℕ × Bool) → Option Held → Option Held
locked_after (Some h) finish before = Some h
locked_after None (Some f) before = None
locked_after None None before = before

-- The operation that the server is locked for: each Finish ends the Lock before it.
unfoldable pub locked_in : List Record → Option Held
locked_in [] = None
locked_in (r ∷ rs) = locked_after (lock_in r) (finish_in r) (locked_in rs)

abbrev pub finish_number : Option (ℕ × Bool) → ℕ
finish_number None = 0
finish_number (Some f) = f.0

-- the greatest finished operation
unfoldable pub last_finished : List Record → ℕ
last_finished [] = 0
last_finished (r ∷ rs) = max (finish_number (finish_in r)) (last_finished rs)

-- ---- cells

pub record Cells : Type 0 where
  pub objects : FinMap nat_cmp AttrCell
  pub names : FinMap name_cmp NameCell

abbrev pub no_cells : Cells
no_cells = record { objects = map.empty; names = map.empty }

-- only an object that is there gets other attributes
abbrev pub with_attributes : Fattr → Option AttrCell → Cells → Cells
with_attributes a None c = c
with_attributes a (Some cell) c = record c { objects = map.insert c.objects a.fileid (record cell { attributes = a }) }

abbrev pub changed : Change → Cells → Cells
changed (change.PutAttr cell) c = record c { objects = map.insert c.objects cell.attributes.fileid cell }
changed (change.TakeAttr f) c = record c { objects = map.remove c.objects f }
changed (change.PutName cell) c = record c { names = map.insert c.names (cell.dir, cell.name) cell }
changed (change.TakeName d name) c = record c { names = map.remove c.names (d, name) }
changed (change.SetFattr a) c = with_attributes a (map.get c.objects a.fileid) c

abbrev pub all_changed : List Change → Cells → Cells
all_changed [] c = c
all_changed (x ∷ xs) c = all_changed xs (changed x c)

-- what a work changes of cells
abbrev pub changes_of_work : Work → List Change
changes_of_work (work.Change changes) = changes
changes_of_work other = []

abbrev pub changes_of_held : Option Held → List Change
changes_of_held None = []
changes_of_held (Some h) = changes_of_work h.work

-- the changes that a record stands for, over the records before it: those of a call that was done, of an operation's
-- work that is applied, and the root's making
abbrev pub changes_in : List Record → Record → List Change
changes_in before (OfDir (dir.Did did)) = did.changes
changes_in before (OfDir (dir.Finish op true)) = changes_of_held (locked_in before)
changes_in before (OfDir (dir.Root cell)) = change.PutAttr cell ∷ []
changes_in before other = []

-- a directory server's cells
unfoldable pub cells_of : List Record → Cells
cells_of [] = no_cells
cells_of (r ∷ rs) = all_changed (changes_in rs r) (cells_of rs)

-- what stands there for a key
abbrev pub found_object : Option AttrCell → FoundCell
found_object None = found.Absent
found_object (Some cell) = found.Attr cell

abbrev pub found_name : Option NameCell → FoundCell
found_name None = found.Absent
found_name (Some cell) = found.Name cell

abbrev pub cell_at : Cells → CellKey → FoundCell
cell_at c (key.Attr f) = found_object (map.get c.objects f)
cell_at c (key.Name d name) = found_name (map.get c.names (d, name))

-- ---- the root

-- the cell of a new volume's root, which the server of site 0 makes at its first opening
abbrev pub root_cell : ℕ → AttrCell
root_cell volume = record {
  attributes = attributes (new_root volume);
  parent = 1;
  entries = 0;
  made = 0;
  verifier = None;
  link = [];
}

abbrev pub is_root : Record → Bool
is_root (OfDir (dir.Root cell)) = true
is_root other = false

abbrev pub has_root : List Record → Bool
has_root [] = false
has_root (r ∷ rs) = is_root r || has_root rs

-- ---- fileids

abbrev pub made_by : List Change → List ℕ
made_by [] = []
made_by (change.PutAttr cell ∷ xs) = cell.attributes.fileid ∷ made_by xs
made_by (x ∷ xs) = made_by xs

-- the fileids that a record has given out
abbrev pub ids_in : Record → List ℕ
ids_in (OfDir (dir.Mint mint)) = mint.fileid ∷ []
ids_in (OfDir (dir.Did did)) = did.chosen ∷ made_by did.changes
ids_in (OfDir (dir.Lock op fence w)) = made_by (changes_of_work w)
ids_in (OfDir (dir.Root cell)) = cell.attributes.fileid ∷ []
ids_in other = []

-- an object's number within its site
abbrev pub counter_of : ℕ → ℕ
counter_of fileid = fileid % 2 ^ 40

abbrev pub above_ids : ℕ → List ℕ → ℕ
above_ids site [] = 1
above_ids site (f ∷ fs) = if site_of f == site then max (counter_of f + 1) (above_ids site fs) else above_ids site fs

-- the root's number is given out before any record is there
abbrev pub first_counter : ℕ → ℕ
first_counter site = if site == 0 then 2 else 1

-- The next counter of a site: above the root's and all that were given out, from 1 on.
unfoldable pub next_counter : ℕ → List Record → ℕ
next_counter site [] = first_counter site
next_counter site (r ∷ rs) = max (above_ids site (ids_in r)) (next_counter site rs)

-- so many objects a site may have
abbrev pub counter_end : ℕ
counter_end = 2 ^ 40

abbrev pub fileid_at : ℕ → ℕ → ℕ
fileid_at site counter = site * 2 ^ 40 + counter

-- ---- bytes

abbrev pub Bytes : Type 0
Bytes = FinMap place_cmp ℕ

abbrev pub with_writes : ℕ → List Write → Bytes → Bytes
with_writes f [] m = m
with_writes f (w ∷ ws) m = with_writes f ws (put_bytes f w.offset w.bytes m)

-- a data server's work is done
abbrev pub worked : Work → Bytes → Bytes
worked (work.Keep f writes) m = with_writes f writes m
worked (work.Put f offset bytes) m = put_bytes f offset bytes m
worked (work.Cut f size) m = cut_at f size m
worked (work.Drop f) m = cut_at f 0 m
worked (work.Change changes) m = m

abbrev pub held_worked : Option Held → Bytes → Bytes
held_worked None m = m
held_worked (Some h) m = worked h.work m

abbrev pub bytes_after : List Record → Record → Bytes → Bytes
bytes_after before (OfData (store.Finish op true)) m = held_worked (locked_in before) m
bytes_after before other m = m

-- a data server's stable bytes
unfoldable pub bytes_of : List Record → Bytes
bytes_of [] = map.empty
bytes_of (r ∷ rs) = bytes_after rs r (bytes_of rs)

-- ---- the log

abbrev pub started_in : Record → Option Started
started_in (OfLog (log.Intent started)) = Some started
started_in other = None

abbrev pub is_done : ℕ → Record → Bool
is_done op (OfLog (log.Done n)) = n == op
is_done op other = false

abbrev pub any_record : (Record → Bool) → List Record → Bool
any_record is [] = false
any_record is (r ∷ rs) = is r || any_record is rs

-- how an operation was decided, where it is
abbrev pub decision_in : ℕ → Record → Option Bool
decision_in op (OfLog (log.Decide n done)) = if n == op then Some done else None
decision_in op other = None

abbrev pub decision_of : List Record → ℕ → Option Bool
decision_of rs op = latest (decision_in op) rs

abbrev pub started_list : Option Started → List Started
started_list None = []
started_list (Some s) = s ∷ []

abbrev pub still_going : List Record → List Started → List Started
still_going all [] = []
still_going all (s ∷ ss) = if any_record (is_done s.op) all then still_going all ss else s ∷ still_going all ss

unfoldable pub started_of : List Record → List Started
started_of [] = []
started_of (r ∷ rs) = started_of rs ++ started_list (started_in r)

-- the intents that were started and aren't done, by rising operation
abbrev pub unfinished : List Record → List Started
unfinished rs = still_going rs (started_of rs)

abbrev pub with_op : ℕ → List Started → Option Started
with_op op [] = None
with_op op (s ∷ ss) = if s.op == op then Some s else with_op op ss

abbrev pub last_op : List Started → ℕ
last_op [] = 0
last_op (s ∷ ss) = max s.op (last_op ss)

-- the number of the next operation
abbrev pub next_op : List Record → ℕ
next_op rs = last_op (started_of rs) + 1
