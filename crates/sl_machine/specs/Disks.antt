-- What the disks of an ensemble hold of a volume, at rest and at every moment.
use Rattle.std.specs.Prelude.{◌≡◌, ℕ, ◌/◌, ◌^◌, ◌==◌, ◌<◌, ◌≤◌, List, [], Option, Some, None, Bool, true, false, not, ◌&&◌, Contains, if◌then◌else◌, ◌⊎◌}
use Rattle.std.specs.Option.{unwrap_or}
use Rattle.std.specs.FinMap as map
use Rattle.sl_defs.specs.declared.setup.Setup.{Setup}
use Rattle.sl_model.specs.declared.node.Node.{Node}
use Rattle.sl_model.specs.Volume.{Volume}
use Rattle.sl_model.specs.Tree.{Tree}
use Rattle.sl_route.specs.declared.class.Class.TheVariants as class
use Rattle.sl_policy.specs.Sites.{site_of}
use Rattle.sl_cells.specs.declared.keys.CellKey.{CellKey}
use Rattle.sl_frames.specs.declared.found.FoundCell.{FoundCell}
use Rattle.sl_frames.specs.declared.found.FoundCell.TheVariants as found
use Rattle.sl_frames.specs.declared.work.Work.{Work}
use Rattle.sl_frames.specs.declared.work.Work.TheVariants as work
use Rattle.sl_frames.specs.declared.intent.Part.{Part}
use Rattle.sl_records.specs.declared.started.Started.{Started}
use Rattle.sl_records.specs.declared.coordinator.LogEntry.TheVariants as log
use Rattle.sl_records.specs.declared.directory.DirRecord.TheVariants as dir
use Rattle.sl_records.specs.declared.data_server.DataRecord.TheVariants as store
use Rattle.sl_history.specs.Placing.{carrier, byte_server}
use Rattle.sl_history.specs.Wired.{cell_of, place_of}
use Rattle.sl_machine.specs.Records.{Record, OfLog, OfDir, OfData, Held, Cells, Bytes, cells_of, bytes_of, cell_at, changes_of_held, all_changed, changed, held_worked, locked_in, has_root, root_cell, starts_of, unfinished, started_of, decision_of, next_op, next_counter, counter_of}
use Rattle.sl_machine.specs.Parts.{class_servers, data_servers}
use Rattle.sl_cells.specs.declared.changes.Change.TheVariants as change

-- the records of each actor's disk, the newest first
abbrev pub Disks : Type 0
Disks = ℕ → List Record

-- ---- what a server holds, with the work of an operation that is decided and not finished there taken as done

abbrev pub is_yes : Option Bool → Bool
is_yes None = false
is_yes (Some agreed) = agreed

abbrev pub decided_yes : List Record → Option Held → Option Held
decided_yes entries None = None
decided_yes entries (Some h) = if is_yes (decision_of entries h.op) then Some h else None

-- a disk of the root's site without a record of it is taken to hold it
abbrev pub with_root : Setup → ℕ → List Record → Cells → Cells
with_root s i rs c = if i == carrier s class.Dir 0 && not (has_root rs) then changed (change.PutAttr (root_cell s.volume)) c else c

unfoldable pub cells_held : Setup → Disks → ℕ → Cells
cells_held s disks i = all_changed (changes_of_held (decided_yes (disks 1) (locked_in (disks i)))) (with_root s i (disks i) (cells_of (disks i)))

unfoldable pub bytes_held : Disks → ℕ → Bytes
bytes_held disks i = held_worked (decided_yes (disks 1) (locked_in (disks i))) (bytes_of (disks i))

abbrev pub byte_in : Bytes → ℕ → ℕ → ℕ
byte_in m f at = unwrap_or (map.get m (f, at)) 0

-- ---- each part of the volume lies with its server alone

abbrev pub cell_due : Setup → Volume → ℕ → CellKey → FoundCell
cell_due s v i k = if place_of s k == i then cell_of v k else found.Absent

-- a stable byte; past the end of a file, and of no file, it is zero
abbrev pub stable_byte : Volume → ℕ → ℕ → ℕ
stable_byte v f at = unwrap_or (map.get v.written (f, at)) 0

abbrev pub byte_due : Setup → Volume → ℕ → ℕ → ℕ → ℕ
byte_due s v i f at = if byte_server s f at == i then stable_byte v f at else 0

pub record EndsWithin (v : Volume) : Type 0 where
  pub past_end : (f at : ℕ) (n : Node) → map.get v.nodes f ≡ Some n → n.size ≤ at → stable_byte v f at ≡ 0
  pub no_file : (f at : ℕ) → map.get v.nodes f ≡ None → stable_byte v f at ≡ 0

pub record Lies (s : Setup) (v : Volume) (disks : Disks) : Type 0 where
  pub cells : (i : ℕ) (k : CellKey) → Contains (class_servers s class.Dir) i → cell_at (cells_held s disks i) k ≡ cell_due s v i k
  pub bytes : (i f at : ℕ) → Contains (data_servers s) i → byte_in (bytes_held disks i) f at ≡ byte_due s v i f at
  pub ends : EndsWithin v

-- At rest: no operation is unfinished, and each part lies with its server.
pub record Scattered (s : Setup) (v : Volume) (disks : Disks) : Type 0 where
  pub idle : unfinished (disks 1) ≡ []
  pub lies : Lies s v disks

-- ---- at every moment

-- this work is the server's part of the intent; what a Keep keeps stands in the record alone
abbrev pub same_work : Work → Work → Type 0
same_work (work.Keep f writes) asked = asked ≡ work.Keep f []
same_work other asked = asked ≡ other

pub record IsPartOf (i : ℕ) (h : Held) (p : Part) : Type 0 where
  pub server : p.actor ≡ i
  pub work : same_work h.work p.work

-- the operation that the server is locked for is unfinished, and the server has this part in it
pub record IsOngoing (disks : Disks) (i : ℕ) (h : Held) : Type 0 where
  pub started : Started
  pub going : Contains (unfinished (disks 1)) started
  pub number : started.op ≡ h.op
  pub part : Part
  pub is : Contains started.intent.parts part
  pub own : IsPartOf i h part

-- the server's record of a Lock, or of its Finish
abbrev pub HasLock : Record → ℕ → Type 0
HasLock (OfDir (dir.Lock op fence w)) n = op ≡ n
HasLock (OfData (store.Lock op fence w)) n = op ≡ n
HasLock (OfDir (dir.Finish op applied)) n = op ≡ n
HasLock (OfData (store.Finish op applied)) n = op ≡ n
HasLock other n = ⊥

pub record HasPart (disks : Disks) (i op : ℕ) : Type 0 where
  pub one : Record
  pub there : Contains (disks i) one
  pub is : HasLock one op

-- a number of an operation in a record
abbrev pub NamesBelow : ℕ → Record → Type 0
NamesBelow end (OfDir (dir.Lock op fence w)) = op < end
NamesBelow end (OfData (store.Lock op fence w)) = op < end
NamesBelow end (OfDir (dir.Finish op applied)) = op < end
NamesBelow end (OfData (store.Finish op applied)) = op < end
NamesBelow end other = Unit {0}

-- a fence's start
abbrev pub start_of : ℕ → ℕ
start_of fence = fence / 2 ^ 32

-- every fence in a record is of a start that was counted
abbrev pub FencesCounted : ℕ → Record → Type 0
FencesCounted starts (OfLog (log.Fence fence)) = start_of fence ≤ starts
FencesCounted starts (OfLog (log.Intent s)) = start_of s.request.fence ≤ starts
FencesCounted starts (OfDir (dir.Fence fence)) = start_of fence ≤ starts
FencesCounted starts (OfDir (dir.Mint m)) = start_of m.fence ≤ starts
FencesCounted starts (OfDir (dir.Did d)) = start_of d.request.fence ≤ starts
FencesCounted starts (OfDir (dir.Lock op fence w)) = start_of fence ≤ starts
FencesCounted starts (OfData (store.Lock op fence w)) = start_of fence ≤ starts
FencesCounted starts other = Unit {0}

-- a Lock without its Finish is above each finished operation
abbrev pub AboveFinished : ℕ → Record → Type 0
AboveFinished op (OfDir (dir.Finish n applied)) = n < op
AboveFinished op (OfData (store.Finish n applied)) = n < op
AboveFinished op other = Unit {0}

-- the record of a Lock of this operation, and of its Finish
abbrev pub IsLockOf : ℕ → Record → Type 0
IsLockOf op (OfDir (dir.Lock n fence w)) = n ≡ op
IsLockOf op (OfData (store.Lock n fence w)) = n ≡ op
IsLockOf op other = ⊥

abbrev pub IsFinishOf : ℕ → Record → Type 0
IsFinishOf op (OfDir (dir.Finish n applied)) = n ≡ op
IsFinishOf op (OfData (store.Finish n applied)) = n ≡ op
IsFinishOf op other = ⊥

pub record IsFinished (records : List Record) (op : ℕ) : Type 0 where
  pub finish : Record
  pub there : Contains records finish
  pub is : IsFinishOf op finish

abbrev pub IsLockedFor : ℕ → Option Held → Type 0
IsLockedFor op None = ⊥
IsLockedFor op (Some h) = h.op ≡ op

-- What holds of the disks at every moment, for a volume: a stop loses nothing that was noted, and leaves no operation
-- half done that can't be finished.
pub record Sound (s : Setup) (v : Volume) (disks : Disks) : Type 0 where
  pub tree : Tree v
  pub lies : Lies s v disks
  pub locked : (i : ℕ) (h : Held) → locked_in (disks i) ≡ Some h → IsOngoing disks i h
  -- a Lock without its Finish is the server's only one
  pub only : (i op : ℕ) (r : Record) → Contains (disks i) r → IsLockOf op r → IsFinished (disks i) op ⊎ IsLockedFor op (locked_in (disks i))
  pub above : (i : ℕ) (h : Held) (r : Record) → locked_in (disks i) ≡ Some h → Contains (disks i) r → AboveFinished h.op r
  pub decided : (started : Started) (p : Part) → Contains (started_of (disks 1)) started → decision_of (disks 1) started.op ≡ Some true → Contains started.intent.parts p → HasPart disks p.actor started.op
  pub numbers : (i : ℕ) (r : Record) → Contains (disks i) r → NamesBelow (next_op (disks 1)) r
  pub fences : (i : ℕ) (r : Record) → Contains (disks i) r → FencesCounted (starts_of (disks 0)) r
  pub ids : (f : ℕ) → map.get v.used f ≡ Some tt → counter_of f < next_counter (site_of f) (disks (carrier s class.Dir (site_of f)))
