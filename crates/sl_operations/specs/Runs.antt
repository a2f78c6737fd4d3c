-- Which histories have a run from empty disks, and what is on the disks at its end.
use Rattle.std.specs.Prelude.{◌≡◌, ℕ, true, false, List, [], ◌∷◌, ◌++◌}
use Rattle.sl_records.specs.declared.proxy.ProxyRecord.TheVariants as start
use Rattle.sl_records.specs.declared.coordinator.LogEntry.TheVariants as log
use Rattle.sl_records.specs.declared.data_server.DataRecord.TheVariants as store
use Rattle.sl_records.specs.declared.directory.DirRecord.TheVariants as dir
use Rattle.sl_records.specs.declared.done.Mint.{Mint}
use Rattle.sl_records.specs.declared.done.Did.{Did}
use Rattle.sl_records.specs.declared.started.Started.{Started}
use Rattle.std.specs.FinMap as map
use Rattle.sl_cells.specs.declared.keys.CellKey.TheVariants as key
use Rattle.sl_frames.specs.declared.found.FoundCell.TheVariants as found
use Rattle.sl_model.specs.declared.node.Node.{Node}
use Rattle.sl_model.specs.Volume.{put_bytes}
use Rattle.sl_machine.specs.Records.{Record, OfProxy, OfLog, OfDir, OfData, Bytes, cells_of, cell_at, bytes_of, root_cell}
use Rattle.sl_machine.specs.Parts.{object_cell}
use Rattle.sl_defs.specs.declared.event.Event.TheVariants as event
use Rattle.sl_history.specs.Turns.{Remark, Sent, Turn, History}
use Rattle.sl_history.specs.Turns as note
use Rattle.sl_history.specs.Wired as wired
use Rattle.sl_history.specs.Legal.{Legal}
use Rattle.sl_history.specs.Licensed.{Licensed}
use Rattle.sl_examples.specs.Histories as examples
use Rattle.sl_machine.specs.World.{World}
use Rattle.sl_machine.specs.Runs.{Run}
use Rattle.sl_witness.specs.Histories.{setup, epoch, fence, turn}
use Rattle.sl_witness.specs.Runs.{CanHappen, Disks, HasEmptyDisks, IsUpWith, first_world, welcomed_disks}
use Rattle.sl_types.specs.declared.kind.Status.TheVariants as status
use Rattle.sl_operations.specs.Histories.{new_node, written_node, written_bytes, new_cells, create_reply, gone_cells, remove_reply, removed, removed_twice, new_attributes, new_bytes, the_intent, created, finished, cut_finish, finish_again, kept_bytes, the_flush, buffered, flushed, next_fence, welcomed_again, decision_finished, anew_finished, cut_lock, lock_again, decided, apply, kept_write, granted}

-- all actors are up, and their disks have these records
pub record HasDisks (w : World) (d : Disks) : Type 0 where
  pub proxy : IsUpWith w 0 d.proxy
  pub coordinator : IsUpWith w 1 d.coordinator
  pub directory : IsUpWith w 16 d.directory
  pub small : IsUpWith w 32 d.small
  pub node : IsUpWith w 48 d.node

-- the world before the last turns of a run
abbrev pub earlier : (last past : History) (w : World) → Run setup (last ++ past) w → World
earlier [] past w run = w
earlier (t ∷ last) past w run = earlier last past run.0 run.1

-- A history with these last turns has a run from empty disks, which had those disks before them, and has these at its end.
pub record CanGoOn (last past : History) (before after : Disks) : Type 0 where
  pub world : World
  pub run : Run setup (last ++ past) world
  pub empty : HasEmptyDisks (first_world (last ++ past) world run)
  pub between : HasDisks (earlier last past world run) before
  pub ends : HasDisks world after

-- ---- what the disks have

-- a fileid is recorded before it is given out
abbrev pub first_mint : Mint
first_mint = record { fence = fence; tag = 2; low = 2; fileid = 2 }

abbrev pub did_create : Did
did_create = record {
  request = record { fence = fence; tag = 3; low = 3; arrival = 3 };
  moment = epoch;
  chosen = 2;
  changes = new_cells;
  reply = create_reply 3 16;
}

abbrev pub created_records : List Record
created_records = OfDir (dir.Did did_create) ∷ OfDir (dir.Mint first_mint) ∷ OfDir (dir.Fence fence) ∷ OfDir (dir.Root (root_cell 1)) ∷ []

abbrev pub created_disks : Disks
created_disks = record welcomed_disks { directory = created_records }

-- ---- what can happen

-- A file is made: its name is asked for, then a fileid, and the directory server does the call alone.
abbrev pub AFileIsMade : Type 0
AFileIsMade = CanHappen created created_disks

-- ---- REMOVE

abbrev pub did_remove : Did
did_remove = record {
  request = record { fence = fence; tag = 6; low = 6; arrival = 10 };
  moment = epoch;
  chosen = 0;
  changes = gone_cells;
  reply = remove_reply 6 status.Ok;
}

abbrev pub removed_records : List Record
removed_records = OfDir (dir.Did did_remove) ∷ created_records

abbrev pub removed_disks : Disks
removed_disks = record welcomed_disks { directory = removed_records }

-- The file is removed: its name is asked for, then the file's cell, and the directory server does the call alone. An empty
-- file has no bytes that other servers would have to drop.
abbrev pub AFileIsRemoved : Type 0
AFileIsRemoved = CanHappen removed removed_disks

-- The same datagram arrives again, as a call of its own. It is answered that there is no such file (NFS3ERR_NOENT), takes
-- effect without changing anything, and leaves the disks as they were.
abbrev pub AnAbsentFileIsNotRemoved : Type 0
AnAbsentFileIsNotRemoved = CanHappen removed_twice removed_disks

-- ---- a stable WRITE

abbrev pub first_started : Started
first_started = record { op = 1; request = record { fence = fence; tag = 5; low = 5; arrival = 10 }; intent = the_intent }

abbrev pub written_disks : Disks
written_disks = record {
  proxy = OfProxy (start.Start 1) ∷ [];
  coordinator = OfLog (log.Done 1) ∷ OfLog (log.Decide 1 true) ∷ OfLog (log.Intent first_started) ∷ OfLog (log.Fence fence) ∷ [];
  directory = OfDir (dir.Finish 1 true) ∷ OfDir (dir.Lock 1 fence new_attributes) ∷ created_records;
  small = OfData (store.Finish 1 true) ∷ OfData (store.Lock 1 fence new_bytes) ∷ OfData (store.Boot 1) ∷ [];
  node = OfData (store.Boot 1) ∷ [];
}

-- A stable WRITE changes the cell at the directory server and the bytes at the small-file server: both are locked, the
-- coordinator decides, the client has its reply, both do their work, and the operation ends.
abbrev pub AStableWriteIsDone : Type 0
AStableWriteIsDone = CanHappen finished written_disks

-- ---- a stable WRITE, with an append that is cut

-- when the append of the Finish was cut at the directory server, and both servers had done what they could
abbrev pub cut_disks : List Record → Disks
cut_disks records = record {
  proxy = OfProxy (start.Start 1) ∷ [];
  coordinator = OfLog (log.Decide 1 true) ∷ OfLog (log.Intent first_started) ∷ OfLog (log.Fence fence) ∷ [];
  directory = records;
  small = OfData (store.Finish 1 true) ∷ OfData (store.Lock 1 fence new_bytes) ∷ OfData (store.Boot 1) ∷ [];
  node = OfData (store.Boot 1) ∷ [];
}

abbrev pub locked_records : List Record
locked_records = OfDir (dir.Lock 1 fence new_attributes) ∷ created_records

abbrev pub finished_records : List Record
finished_records = OfDir (dir.Finish 1 true) ∷ locked_records

-- Where the append of the Finish is cut and the record is there at the next opening, the work is done, and it is
-- acknowledged when the Apply is sent again.
abbrev pub ACutFinishIsDone : Type 0
ACutFinishIsDone = CanGoOn finish_again cut_finish (cut_disks finished_records) written_disks

-- Where the record isn't there, the server is still locked, and does its work when the Apply is sent again.
abbrev pub ALostFinishIsDone : Type 0
ALostFinishIsDone = CanGoOn finish_again cut_finish (cut_disks locked_records) written_disks

-- when the append of the Lock was cut at the directory server, and the small-file server had granted
abbrev pub half_locked_disks : List Record → Disks
half_locked_disks records = record {
  proxy = OfProxy (start.Start 1) ∷ [];
  coordinator = OfLog (log.Intent first_started) ∷ OfLog (log.Fence fence) ∷ [];
  directory = records;
  small = OfData (store.Lock 1 fence new_bytes) ∷ OfData (store.Boot 1) ∷ [];
  node = OfData (store.Boot 1) ∷ [];
}

-- Where the append of the Lock is cut and the record is there at the next opening, the server is locked, and grants when the
-- Lock is sent again.
abbrev pub ACutLockIsDone : Type 0
ACutLockIsDone = CanGoOn lock_again cut_lock (half_locked_disks locked_records) written_disks

-- Where the record isn't there, the server is locked when the Lock is sent again.
abbrev pub ALostLockIsDone : Type 0
ALostLockIsDone = CanGoOn lock_again cut_lock (half_locked_disks created_records) written_disks

-- Where the append of the decision is cut and the record is there at the coordinator's next opening, the effect is noted
-- then, and the reply names that event.
abbrev pub ACutDecisionIsDone : Type 0
ACutDecisionIsDone = CanHappen decision_finished written_disks

-- Where the record isn't there, nothing is noted, and the operation is decided when the Locks were granted again.
abbrev pub ALostDecisionIsDone : Type 0
ALostDecisionIsDone = CanHappen anew_finished written_disks

-- ---- an unstable WRITE and COMMIT

abbrev pub flush_begun : ℕ → Started
flush_begun arrival = record { op = 1; request = record { fence = fence; tag = 6; low = 6; arrival = arrival }; intent = the_flush }

abbrev pub flushed_disks : Disks
flushed_disks = record written_disks {
  coordinator = OfLog (log.Done 1) ∷ OfLog (log.Decide 1 true) ∷ OfLog (log.Intent (flush_begun 15)) ∷ OfLog (log.Fence fence) ∷ [];
  small = OfData (store.Finish 1 true) ∷ OfData (store.Lock 1 fence kept_bytes) ∷ OfData (store.Boot 1) ∷ [];
}

-- An unstable WRITE is buffered by the small-file server, and no disk has it.
abbrev pub AWriteIsBuffered : Type 0
AWriteIsBuffered = CanHappen buffered created_disks

-- COMMIT makes it stable: an operation puts the attributes at the directory server, and the Lock's record of the small-file
-- server has the bytes.
abbrev pub AWriteIsFlushed : Type 0
AWriteIsFlushed = CanHappen flushed flushed_disks

abbrev pub refused_disks : Disks
refused_disks = record {
  proxy = OfProxy (start.Start 1) ∷ [];
  coordinator =
      OfLog (log.Done 1) ∷ OfLog (log.Fence next_fence) ∷ OfLog (log.Decide 1 false) ∷ OfLog (log.Intent (flush_begun 17)) ∷ OfLog (log.Fence fence) ∷ [];
  directory = OfDir (dir.Finish 1 false) ∷ locked_records;
  small = OfData (store.Finish 1 false) ∷ OfData (store.Boot 2) ∷ OfData (store.Boot 1) ∷ [];
  node = OfData (store.Boot 1) ∷ [];
}

-- Where the small-file server stopped, it refuses the Lock, the operation is released everywhere, and the proxy begins anew
-- under its next fence: a new write verifier says that the bytes are lost.
abbrev pub AFlushIsRefused : Type 0
AFlushIsRefused = CanHappen welcomed_again refused_disks

-- What these disks stand for: the file's cell has the attributes, and the bytes are there.
pub record HasFile (d : Disks) (n : Node) (bytes : Bytes) : Type 0 where
  pub cell : cell_at (cells_of d.directory) (key.Attr 2) ≡ found.Attr (object_cell n [])
  pub stable : bytes_of d.small ≡ bytes

-- After the stable WRITE and after the flush the file is there with its bytes, and after the flush that was refused as it was
-- made.
pub record TheDisksStand : Type 0 where
  pub written : HasFile written_disks written_node (put_bytes 2 0 written_bytes map.empty)
  pub flushed : HasFile flushed_disks written_node (put_bytes 2 0 written_bytes map.empty)
  pub refused : HasFile refused_disks new_node map.empty

-- ---- what is claimed of these histories

-- The replies of a stable WRITE, and those of an unstable WRITE and a COMMIT, are one server's.
abbrev pub AStableWriteIsLegal : Type 0
AStableWriteIsLegal = Legal examples.start finished

abbrev pub AFlushIsLegal : Type 0
AFlushIsLegal = Legal examples.start flushed

-- The replies of the two REMOVEs are one server's: the first finds the file, and the second none.
abbrev pub ARemovalIsLegal : Type 0
ARemovalIsLegal = Legal examples.start removed_twice

-- What the history of a flush drops, forgets, flushes and keeps, it may.
abbrev pub AFlushIsLicensed : Type 0
AFlushIsLicensed = Licensed examples.start flushed

-- The history of the two REMOVEs drops, forgets, flushes and keeps nothing that it may not.
abbrev pub ARemovalIsLicensed : Type 0
ARemovalIsLicensed = Licensed examples.start removed_twice

-- In it frames and servers play their parts: requests are answered by those that they went to, what the directory server
-- tells is there, and the first REMOVE takes effect where the root, the name and the file lie.
abbrev pub ARemovalIsWired : Type 0
ARemovalIsWired = wired.Wired setup examples.start removed_twice

-- The history of a flush that is refused is legal, and the write verifier may rise in it.
abbrev pub ARefusalIsLicensed : Type 0
ARefusalIsLicensed = Legal examples.start welcomed_again × Licensed examples.start welcomed_again

-- the turn in which the operation is decided, and its past
abbrev pub before_decision : History
before_decision = turn (event.Give 14) [] ∷ granted

abbrev pub decision : List Remark → Turn
decision notes = turn (event.Give 15) (Sent 16 decided ∷ Sent 17 (apply 16) ∷ Sent 18 (apply 32) ∷ notes)

-- The effect of the stable WRITE may be noted there: the coordinator was given a Grant of each server of what it changes.
abbrev pub AStableWriteStandsRightly : Type 0
AStableWriteStandsRightly =
    wired.MayNote setup examples.start before_decision (decision (note.Did 10 epoch kept_write ∷ [])) (decision [] ∷ before_decision) (note.Did 10 epoch kept_write)
