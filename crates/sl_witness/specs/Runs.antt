-- Which histories have a run from empty disks, and what is on the disks at its end.
use Rattle.std.specs.Prelude.{◌≡◌, ℕ, List, [], ◌∷◌, Some, None}
use Rattle.std.specs.FinMap as map
use Rattle.sl_records.specs.declared.proxy.ProxyRecord.TheVariants as start
use Rattle.sl_records.specs.declared.coordinator.LogEntry.TheVariants as log
use Rattle.sl_records.specs.declared.directory.DirRecord.TheVariants as dir
use Rattle.sl_records.specs.declared.data_server.DataRecord.TheVariants as store
use Rattle.sl_records.specs.declared.done.Did.{Did}
use Rattle.sl_cells.specs.declared.changes.Change.TheVariants as change
use Rattle.sl_history.specs.Turns.{History}
use Rattle.sl_machine.specs.Records.{Record, OfProxy, OfLog, OfDir, OfData, root_cell}
use Rattle.sl_machine.specs.Memory.{Memory, Actor}
use Rattle.sl_machine.specs.World.{World}
use Rattle.sl_machine.specs.Parts.{object_cell}
use Rattle.sl_machine.specs.Runs.{Run}
use Rattle.sl_witness.specs.Histories.{setup, epoch, fence, changed_root, change_reply, changed, answered_again, done_anew, restarted, opened, welcomed, lost, answered, forwarded, replied}

-- the world with which a run begins
abbrev pub first_world : (h : History) (w : World) → Run setup h w → World
first_world [] w run = w
first_world (t ∷ past) w run = first_world past run.0 run.1

abbrev pub HasEmptyDisks : World → Type 0
HasEmptyDisks w = (i : ℕ) (a : Actor) → map.get w.actors i ≡ Some a → a.records ≡ []

-- the actor is up, and its disk has these records, the newest first
abbrev pub IsUpWith : World → ℕ → List Record → Type 0
IsUpWith w i rs = (m : Memory) × (map.get w.actors i ≡ Some (record { memory = Some m; records = rs; limbo = None }))

-- the records of each actor's disk
pub record Disks : Type 0 where
  pub proxy : List Record
  pub coordinator : List Record
  pub directory : List Record
  pub small : List Record
  pub node : List Record

-- The history has a run from empty disks, at whose end all actors are up and their disks have these records.
pub record CanHappen (h : History) (d : Disks) : Type 0 where
  pub world : World
  pub run : Run setup h world
  pub empty : HasEmptyDisks (first_world h world run)
  pub proxy : IsUpWith world 0 d.proxy
  pub coordinator : IsUpWith world 1 d.coordinator
  pub directory : IsUpWith world 16 d.directory
  pub small : IsUpWith world 32 d.small
  pub node : IsUpWith world 48 d.node

-- ---- what the disks have

abbrev pub new_disks : Disks
new_disks = record {
  proxy = OfProxy (start.Start 1) ∷ [];
  coordinator = [];
  directory = OfDir (dir.Root (root_cell 1)) ∷ [];
  small = OfData (store.Boot 1) ∷ [];
  node = OfData (store.Boot 1) ∷ [];
}

abbrev pub welcomed_disks : Disks
welcomed_disks = record new_disks { coordinator = OfLog (log.Fence fence) ∷ [] }

-- the directory server records the fence before it does anything under it
abbrev pub looked_disks : Disks
looked_disks = record welcomed_disks { directory = OfDir (dir.Fence fence) ∷ OfDir (dir.Root (root_cell 1)) ∷ [] }

-- ---- what can happen

-- From empty disks all actors come up, and the proxy sends its first Hello.
abbrev pub TheEnsembleOpens : Type 0
TheEnsembleOpens = CanHappen opened new_disks

-- The coordinator records the fence of the Hello and answers with a Welcome, which brings the write verifier.
abbrev pub TheProxyIsWelcomed : Type 0
TheProxyIsWelcomed = CanHappen welcomed welcomed_disks

-- A Hello that is lost is sent again at a tick.
abbrev pub AFrameIsLost : Type 0
AFrameIsLost = CanHappen lost new_disks

-- A proxy that is opened again counts its start, and says Hello under a greater fence.
abbrev pub AProxyStartsAgain : Type 0
AProxyStartsAgain = CanHappen restarted (record new_disks { proxy = OfProxy (start.Start 2) ∷ OfProxy (start.Start 1) ∷ [] })

-- NULL is answered at its arrival.
abbrev pub ANullCallIsAnswered : Type 0
ANullCallIsAnswered = CanHappen answered new_disks

-- A call that only asks is forwarded to the one server that has what it asks for.
abbrev pub ACallIsForwarded : Type 0
ACallIsForwarded = CanHappen forwarded welcomed_disks

-- The server answers it from its cells, and the client has its reply.
abbrev pub ACallIsReplied : Type 0
ACallIsReplied = CanHappen replied looked_disks

-- the record of the call has its changes and its reply
abbrev pub did : Did
did = record {
  request = record { fence = fence; tag = 2; low = 2; arrival = 3 };
  moment = epoch;
  chosen = 0;
  changes = change.PutAttr (object_cell changed_root []) ∷ [];
  reply = change_reply 2;
}

abbrev pub changed_disks : Disks
changed_disks = record welcomed_disks { directory = OfDir (dir.Did did) ∷ OfDir (dir.Fence fence) ∷ OfDir (dir.Root (root_cell 1)) ∷ [] }

-- A call that changes one server's cells is done by that server alone, and its reply names the event of its effect.
abbrev pub ACallIsDone : Type 0
ACallIsDone = CanHappen changed changed_disks

-- Where the append of the record is cut and the record is there, the call is done once, and its reply names the event of
-- the opening that noted it.
abbrev pub ACutCallIsDone : Type 0
ACutCallIsDone = CanHappen answered_again changed_disks

-- Where the record isn't there, nothing is noted, and the call is done when its request is sent again.
abbrev pub ALostCallIsDone : Type 0
ALostCallIsDone = CanHappen done_anew changed_disks
