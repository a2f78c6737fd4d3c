-- A stable WRITE: both servers do their work, and the operation ends.
use Rattle.std.proofs.Common.{true, List, [], ◌∷◌, Some, refl}
use Rattle.sl_defs.specs.declared.event.Event.TheVariants as event
use Rattle.sl_records.specs.declared.coordinator.LogEntry.TheVariants as log
use Rattle.sl_records.specs.declared.directory.DirRecord.TheVariants as dir
use Rattle.sl_records.specs.declared.data_server.DataRecord.TheVariants as stored
use Rattle.sl_history.specs.Turns.{Sent}
use Rattle.sl_machine.specs.Records.{Record, cells_of, locked_in, last_finished, started_of, found_object}
use Rattle.sl_machine.specs.Records as records
use Rattle.sl_machine.specs.Memory.{Request, Waiting, Vote, Coord, Actor, nothing_told, no_soft}
use Rattle.sl_machine.specs.Memory as memory
use Rattle.sl_machine.specs.World.{Scene, Given, Proceeds, Segment, quiet, after_segment}
use Rattle.sl_machine.specs.Verdicts.{verdict, Answers}
use Rattle.sl_machine.specs.Coordinators as coordinators
use Rattle.sl_machine.specs.Runs.{Run, TurnRun, ByCoordinator}
use Rattle.sl_witness.specs.Histories.{setup, turn}
use Rattle.sl_witness.proofs.Openings.{no_store, empty_disks}
use Rattle.sl_operations.specs.Histories.{apply, decided, finished, ack}
use Rattle.sl_operations.specs.Runs.{AStableWriteIsDone}
use Rattle.sl_operations.proofs.Maps.{of, got}
use Rattle.sl_operations.proofs.Stages.{Stage, world, Course, scene_of, after_all, landed_stage, gives}
use Rattle.sl_operations.proofs.Singly.{with_none}
use Rattle.sl_operations.proofs.Serving.{site, directory_may, store_of, store_may, coordinator, coordinator_may, none_waits}
use Rattle.sl_operations.proofs.Decides.{vote, server_16, locks_directory, store_20, coordinator_22, s23, replied_run}

-- ---- the directory server does its work

abbrev pub server_19 : Actor
server_19 = after_segment server_16 locks_directory

abbrev pub x24 : Scene
x24 = scene_of s23 16

abbrev pub finishes_directory : Segment
finishes_directory = record {
  append = Some (records.OfDir (dir.Finish 1 true));
  memory = memory.OfSite (site 4 []);
  frames = ack 16 0 ∷ [];
  notes = [];
  todo = [];
}

pub course_24 : Course x24 (Given (apply 16) 17 ∷ []) server_19 (finishes_directory ∷ [])
unfolding verdict locked_in last_finished
course_24 = (directory_may x24 server_19 4 [] (apply 16) 17 finishes_directory refl refl refl refl Answers refl refl, refl)

abbrev pub s24 : Stage
s24 = after_all (landed_stage s23 17) 16 server_19 (finishes_directory ∷ [])

pub is_applied : TurnRun (world s23) (turn (event.Give 17) (Sent 19 (ack 16 0) ∷ [])) (world s24)
is_applied = gives s23 17 (apply 16) 17 server_19 (finishes_directory ∷ []) refl refl refl course_24

-- ---- and the small-file server

abbrev pub x25 : Scene
x25 = scene_of s24 32

abbrev pub finishes_store : Segment
finishes_store = record {
  append = Some (records.OfData (stored.Finish 1 true));
  memory = memory.OfStore (store_of 0 [] []);
  frames = ack 32 1 ∷ [];
  notes = [];
  todo = [];
}

pub course_25 : Course x25 (Given (apply 32) 17 ∷ []) store_20 (finishes_store ∷ [])
unfolding verdict locked_in last_finished
course_25 = (store_may x25 store_20 0 [] [] (apply 32) 17 finishes_store refl refl refl refl Answers refl refl, refl)

abbrev pub s25 : Stage
s25 = after_all (landed_stage s24 18) 32 store_20 (finishes_store ∷ [])

pub both_are_applied : TurnRun (world s24) (turn (event.Give 18) (Sent 20 (ack 32 1) ∷ [])) (world s25)
both_are_applied = gives s24 18 (apply 32) 17 store_20 (finishes_store ∷ []) refl refl refl course_25

-- ---- the first acknowledgement

abbrev pub x26 : Scene
x26 = scene_of s25 1

-- with these acknowledgements
abbrev pub acknowledged : List Vote → Coord
acknowledged votes = coordinator 5 ((5, decided) ∷ []) [] (vote 32 ∷ vote 16 ∷ []) votes

abbrev counts : Segment
counts = quiet (memory.OfCoord (acknowledged (vote 16 ∷ []))) []

abbrev coordinator_26 : Actor
coordinator_26 = after_segment coordinator_22 counts

pub course_26 : Course x26 (Given (ack 16 0) 19 ∷ []) coordinator_22 (counts ∷ [])
unfolding verdict started_of
course_26 = (coordinator_may x26 coordinator_22 5 ((5, decided) ∷ []) [] (vote 32 ∷ vote 16 ∷ []) [] (ack 16 0) 19 counts refl refl refl refl Answers refl refl, refl)

abbrev pub s26 : Stage
s26 = after_all (landed_stage s25 19) 1 coordinator_22 (counts ∷ [])

pub is_acknowledged : TurnRun (world s25) (turn (event.Give 19) []) (world s26)
is_acknowledged = gives s25 19 (ack 16 0) 19 coordinator_22 (counts ∷ []) refl refl refl course_26

-- ---- the last one ends the operation

abbrev pub x27 : Scene
x27 = scene_of s26 1

abbrev ends_it : Segment
ends_it = record {
  append = Some (records.OfLog (log.Done 1));
  memory = memory.OfCoord (acknowledged (vote 32 ∷ vote 16 ∷ []));
  frames = [];
  notes = [];
  todo = Proceeds ∷ [];
}

abbrev pub coordinator_done : Coord
coordinator_done = acknowledged (vote 32 ∷ vote 16 ∷ [])

abbrev waits : Segment
waits = quiet (memory.OfCoord coordinator_done) []

abbrev ending : List Segment
ending = ends_it ∷ waits ∷ []

pub course_27 : Course x27 (Given (ack 32 1) 20 ∷ []) coordinator_26 ending
unfolding verdict started_of
course_27 = (
  coordinator_may x27 coordinator_26 5 ((5, decided) ∷ []) [] (vote 32 ∷ vote 16 ∷ []) (vote 16 ∷ []) (ack 32 1) 20 ends_it refl refl refl refl Answers refl refl,
  (ByCoordinator coordinator_done refl refl (coordinators.IsResting refl (record { none = none_waits _; unowed = refl; does = refl })), refl),
)

abbrev pub s27 : Stage
s27 = after_all (landed_stage s26 20) 1 coordinator_26 ending

pub is_finished : TurnRun (world s26) (turn (event.Give 20) []) (world s27)
is_finished = gives s26 20 (ack 32 1) 20 coordinator_26 ending refl refl refl course_27

abbrev pub finished_run : Run setup finished (world s27)
finished_run = (world s26, (world s25, (world s24, (world s23, replied_run, refl, is_applied), refl, both_are_applied), refl, is_acknowledged), refl, is_finished)

pub a_stable_write_is_done : AStableWriteIsDone
a_stable_write_is_done = record {
  world = world s27;
  run = finished_run;
  empty = empty_disks;
  proxy = (memory.OfProxy (with_none no_soft (of []) 6), got s27.actors 0 _ refl);
  coordinator = (memory.OfCoord coordinator_done, got s27.actors 1 _ refl);
  directory = (memory.OfSite (site 4 []), got s27.actors 16 _ refl);
  small = (memory.OfStore (store_of 0 [] []), got s27.actors 32 _ refl);
  node = (memory.OfStore no_store, got s27.actors 48 _ refl);
}
