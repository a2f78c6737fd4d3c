-- The append of the Finish is cut at the directory server: its work is done once, whether the next opening finds the record or
-- not.
use Rattle.std.proofs.Common.{◌≡◌, true, [], ◌∷◌, ◌++◌, Some, None, refl, sym, ap}
use Rattle.std.specs.FinMap.{entries}
use Rattle.sl_defs.specs.declared.event.Event.TheVariants as event
use Rattle.sl_records.specs.declared.coordinator.LogEntry.TheVariants as log
use Rattle.sl_records.specs.declared.directory.DirRecord.TheVariants as dir
use Rattle.sl_history.specs.Turns.{Sent, Down}
use Rattle.sl_machine.specs.Records.{Record, cells_of, locked_in, last_finished, started_of, found_object}
use Rattle.sl_machine.specs.Records as records
use Rattle.sl_machine.specs.Memory.{Request, Waiting, Vote, Coord, Actor, nothing_told, no_soft}
use Rattle.sl_machine.specs.Memory as memory
use Rattle.sl_machine.specs.World.{Given, Ticks, Proceeds, Segment, quiet, sends, scene, after_segment, cut_actor}
use Rattle.sl_machine.specs.Verdicts.{verdict, Answers, Finished}
use Rattle.sl_machine.specs.Coordinators as coordinators
use Rattle.sl_machine.specs.Proxies.{frames_again}
use Rattle.sl_machine.specs.Proxies as proxy
use Rattle.sl_machine.specs.Openings.{WithoutLimbo, WithLimbo}
use Rattle.sl_machine.specs.Runs.{Run, TurnRun, ByCoordinator, ByProxy, opened_actor}
use Rattle.sl_witness.specs.Histories.{setup, turn}
use Rattle.sl_witness.proofs.Openings.{no_store, empty_disks}
use Rattle.sl_operations.specs.Histories.{apply, decided, cut_finish, finish_again, ack}
use Rattle.sl_operations.specs.Runs.{locked_records, finished_records, ACutFinishIsDone, ALostFinishIsDone}
use Rattle.sl_operations.proofs.Maps.{of, got, entries_none}
use Rattle.sl_operations.proofs.Stages.{Stage, world, Course, scene_of, after_all, landed_stage, gives}
use Rattle.sl_operations.proofs.Singly.{with_none}
use Rattle.sl_operations.proofs.Serving.{site, directory_may, store_of, coordinator_may, none_waits}
use Rattle.sl_operations.proofs.Decides.{vote, store_20, coordinator_22, proxy_23, s23, replied_run}
use Rattle.sl_operations.proofs.Finishes.{server_19, finishes_directory, finishes_store, course_24, course_25, acknowledged}
use Rattle.sl_operations.proofs.Faults.{cut_stage, cuts, opened_stage, starts, ticked_stage, ticks}
use Rattle.sl_operations.proofs.Reopens.{kept, server_of, reads, is_there, reopens_locked, reopens_finished}

-- ---- the append is cut

abbrev the_finish : Record
the_finish = records.OfDir (dir.Finish 1 true)

abbrev cut_server : Actor
cut_server = cut_actor server_19 the_finish

abbrev pub t24 : Stage
t24 = cut_stage s23 17 16 server_19 the_finish

pub is_cut : TurnRun (world s23) (turn (event.Give 17) (Down 16 ∷ [])) (world t24)
is_cut = cuts s23 17 (apply 16) 17 server_19 finishes_directory the_finish refl refl refl course_24.0 refl

-- ---- the small-file server does its work

abbrev pub t25 : Stage
t25 = after_all (landed_stage t24 18) 32 store_20 (finishes_store ∷ [])

pub is_applied : TurnRun (world t24) (turn (event.Give 18) (Sent 19 (ack 32 1) ∷ [])) (world t25)
is_applied = gives t24 18 (apply 32) 17 store_20 (finishes_store ∷ []) refl refl refl course_25

abbrev counts : Segment
counts = quiet (memory.OfCoord (acknowledged (vote 32 ∷ []))) []

abbrev coordinator_26 : Actor
coordinator_26 = after_segment coordinator_22 counts

course_is_acknowledged : Course (scene_of t25 1) (Given (ack 32 1) 20 ∷ []) coordinator_22 (counts ∷ [])
unfolding verdict started_of
course_is_acknowledged = (coordinator_may (scene_of t25 1) coordinator_22 5 ((5, decided) ∷ []) [] (vote 32 ∷ vote 16 ∷ []) [] (ack 32 1) 20 counts refl refl refl refl Answers refl refl, refl)

abbrev pub t26 : Stage
t26 = after_all (landed_stage t25 19) 1 coordinator_22 (counts ∷ [])

pub is_acknowledged : TurnRun (world t25) (turn (event.Give 19) ([])) (world t26)
is_acknowledged = gives t25 19 (ack 32 1) 20 coordinator_22 (counts ∷ []) refl refl refl course_is_acknowledged

-- ---- ticks and acknowledgements

abbrev nothing_again : Segment
nothing_again = quiet (memory.OfProxy (with_none no_soft (of []) 6)) []

nothing_is_sent : nothing_again ≡ record nothing_again { frames = frames_again (with_none no_soft (of []) 6) (entries (of [])) }
nothing_is_sent = ap (λ es. record nothing_again { frames = frames_again (with_none no_soft (of []) 6) es }) (sym entries_none)

abbrev applies_again : Segment
applies_again = record { append = None; memory = memory.OfCoord (acknowledged (vote 32 ∷ [])); frames = apply 16 ∷ []; notes = []; todo = [] }

abbrev coordinator_28 : Actor
coordinator_28 = after_segment coordinator_26 applies_again

abbrev acknowledges_again : Segment
acknowledges_again = sends (memory.OfSite (site 3 kept)) (ack 16 0) []

abbrev finishes_again : Segment
finishes_again = record finishes_directory { memory = memory.OfSite (site 3 kept) }

abbrev coordinator_done : Coord
coordinator_done = acknowledged (vote 16 ∷ vote 32 ∷ [])

abbrev ends_it : Segment
ends_it = record { append = Some (records.OfLog (log.Done 1)); memory = memory.OfCoord coordinator_done; frames = []; notes = []; todo = Proceeds ∷ [] }

abbrev waits : Segment
waits = quiet (memory.OfCoord coordinator_done) []

-- ---- the record is there: the work is done, and acknowledged again

abbrev pub f27 : Stage
f27 = after_all (opened_stage t26 16 cut_server finished_records ([])) 16 (opened_actor cut_server finished_records) (reads ∷ is_there ∷ [])

pub found_opened : TurnRun (world t26) (turn (event.Start 16) ([])) (world f27)
found_opened = starts t26 16 cut_server finished_records 5 (reads ∷ is_there ∷ []) ([]) refl refl refl (WithLimbo the_finish refl refl) refl refl (reopens_finished 22 (of []))

course_found_ticked : Course (scene_of f27 0) (Ticks ∷ []) proxy_23 (nothing_again ∷ [])
course_found_ticked = (ByProxy (with_none no_soft (of []) 6) refl refl (proxy.IsSentAgain refl (record { does = nothing_is_sent })), refl)

log_found_ticked : Course (scene (world (ticked_stage f27 proxy_23 (nothing_again ∷ []))) 1) (Ticks ∷ []) coordinator_26 (applies_again ∷ [])
unfolding started_of
log_found_ticked = (ByCoordinator (acknowledged (vote 32 ∷ [])) refl refl (coordinators.IsSentAgain refl (record { does = refl })), refl)

abbrev pub f28 : Stage
f28 = after_all (ticked_stage f27 proxy_23 (nothing_again ∷ [])) 1 coordinator_26 (applies_again ∷ [])

pub found_ticked : TurnRun (world f27) (turn event.Tick (Sent 20 (apply 16) ∷ [])) (world f28)
found_ticked = ticks f27 proxy_23 (nothing_again ∷ []) coordinator_26 (applies_again ∷ []) refl refl course_found_ticked refl refl log_found_ticked

course_found_applied : Course (scene_of f28 16) (Given (apply 16) 23 ∷ []) (server_of finished_records) (acknowledges_again ∷ [])
unfolding verdict locked_in last_finished
course_found_applied = (directory_may (scene_of f28 16) (server_of finished_records) 3 kept (apply 16) 23 acknowledges_again refl refl refl refl Finished refl refl, refl)

abbrev pub f29 : Stage
f29 = after_all (landed_stage f28 20) 16 (server_of finished_records) (acknowledges_again ∷ [])

pub found_applied : TurnRun (world f28) (turn (event.Give 20) (Sent 21 (ack 16 0) ∷ [])) (world f29)
found_applied = gives f28 20 (apply 16) 23 (server_of finished_records) (acknowledges_again ∷ []) refl refl refl course_found_applied

course_found_finished : Course (scene_of f29 1) (Given (ack 16 0) 24 ∷ []) coordinator_28 (ends_it ∷ waits ∷ [])
unfolding verdict started_of
course_found_finished = (
  coordinator_may (scene_of f29 1) coordinator_28 5 ((5, decided) ∷ []) [] (vote 32 ∷ vote 16 ∷ []) (vote 32 ∷ []) (ack 16 0) 24 ends_it refl refl refl refl Answers refl refl,
  (ByCoordinator coordinator_done refl refl (coordinators.IsResting refl (record { none = none_waits _; unowed = refl; does = refl })), refl),
)

abbrev pub f30 : Stage
f30 = after_all (landed_stage f29 21) 1 coordinator_28 (ends_it ∷ waits ∷ [])

pub found_finished : TurnRun (world f29) (turn (event.Give 21) ([])) (world f30)
found_finished = gives f29 21 (ack 16 0) 24 coordinator_28 (ends_it ∷ waits ∷ []) refl refl refl course_found_finished

abbrev found_run : Run setup (finish_again ++ cut_finish) (world f30)
found_run = (world f29, (world f28, (world f27, (world t26, (world t25, (world t24, (world s23, replied_run, refl, is_cut), refl, is_applied), refl, is_acknowledged), refl, found_opened), refl, found_ticked), refl, found_applied), refl, found_finished)

pub a_cut_finish_is_done : ACutFinishIsDone
a_cut_finish_is_done = record {
  world = world f30;
  run = found_run;
  empty = empty_disks;
  between = record {
    proxy = (memory.OfProxy (with_none no_soft (of []) 6), got f27.actors 0 _ refl);
    coordinator = (memory.OfCoord (acknowledged (vote 32 ∷ [])), got f27.actors 1 _ refl);
    directory = (memory.OfSite (site 3 kept), got f27.actors 16 _ refl);
    small = (memory.OfStore (store_of 0 [] []), got f27.actors 32 _ refl);
    node = (memory.OfStore no_store, got f27.actors 48 _ refl);
  };
  ends = record {
    proxy = (memory.OfProxy (with_none no_soft (of []) 6), got f30.actors 0 _ refl);
    coordinator = (memory.OfCoord coordinator_done, got f30.actors 1 _ refl);
    directory = (memory.OfSite (site 3 kept), got f30.actors 16 _ refl);
    small = (memory.OfStore (store_of 0 [] []), got f30.actors 32 _ refl);
    node = (memory.OfStore no_store, got f30.actors 48 _ refl);
  };
}

-- ---- the record isn't there: the server is still locked, and does its work now

abbrev pub l27 : Stage
l27 = after_all (opened_stage t26 16 cut_server locked_records ([])) 16 (opened_actor cut_server locked_records) (reads ∷ is_there ∷ [])

pub lost_opened : TurnRun (world t26) (turn (event.Start 16) ([])) (world l27)
lost_opened = starts t26 16 cut_server locked_records 5 (reads ∷ is_there ∷ []) ([]) refl refl refl (WithoutLimbo refl) refl refl (reopens_locked 22 (of []))

course_lost_ticked : Course (scene_of l27 0) (Ticks ∷ []) proxy_23 (nothing_again ∷ [])
course_lost_ticked = (ByProxy (with_none no_soft (of []) 6) refl refl (proxy.IsSentAgain refl (record { does = nothing_is_sent })), refl)

log_lost_ticked : Course (scene (world (ticked_stage l27 proxy_23 (nothing_again ∷ []))) 1) (Ticks ∷ []) coordinator_26 (applies_again ∷ [])
unfolding started_of
log_lost_ticked = (ByCoordinator (acknowledged (vote 32 ∷ [])) refl refl (coordinators.IsSentAgain refl (record { does = refl })), refl)

abbrev pub l28 : Stage
l28 = after_all (ticked_stage l27 proxy_23 (nothing_again ∷ [])) 1 coordinator_26 (applies_again ∷ [])

pub lost_ticked : TurnRun (world l27) (turn event.Tick (Sent 20 (apply 16) ∷ [])) (world l28)
lost_ticked = ticks l27 proxy_23 (nothing_again ∷ []) coordinator_26 (applies_again ∷ []) refl refl course_lost_ticked refl refl log_lost_ticked

course_lost_applied : Course (scene_of l28 16) (Given (apply 16) 23 ∷ []) (server_of locked_records) (finishes_again ∷ [])
unfolding verdict locked_in last_finished
course_lost_applied = (directory_may (scene_of l28 16) (server_of locked_records) 3 kept (apply 16) 23 finishes_again refl refl refl refl Answers refl refl, refl)

abbrev pub l29 : Stage
l29 = after_all (landed_stage l28 20) 16 (server_of locked_records) (finishes_again ∷ [])

pub lost_applied : TurnRun (world l28) (turn (event.Give 20) (Sent 21 (ack 16 0) ∷ [])) (world l29)
lost_applied = gives l28 20 (apply 16) 23 (server_of locked_records) (finishes_again ∷ []) refl refl refl course_lost_applied

course_lost_finished : Course (scene_of l29 1) (Given (ack 16 0) 24 ∷ []) coordinator_28 (ends_it ∷ waits ∷ [])
unfolding verdict started_of
course_lost_finished = (
  coordinator_may (scene_of l29 1) coordinator_28 5 ((5, decided) ∷ []) [] (vote 32 ∷ vote 16 ∷ []) (vote 32 ∷ []) (ack 16 0) 24 ends_it refl refl refl refl Answers refl refl,
  (ByCoordinator coordinator_done refl refl (coordinators.IsResting refl (record { none = none_waits _; unowed = refl; does = refl })), refl),
)

abbrev pub l30 : Stage
l30 = after_all (landed_stage l29 21) 1 coordinator_28 (ends_it ∷ waits ∷ [])

pub lost_finished : TurnRun (world l29) (turn (event.Give 21) ([])) (world l30)
lost_finished = gives l29 21 (ack 16 0) 24 coordinator_28 (ends_it ∷ waits ∷ []) refl refl refl course_lost_finished

abbrev lost_run : Run setup (finish_again ++ cut_finish) (world l30)
lost_run = (world l29, (world l28, (world l27, (world t26, (world t25, (world t24, (world s23, replied_run, refl, is_cut), refl, is_applied), refl, is_acknowledged), refl, lost_opened), refl, lost_ticked), refl, lost_applied), refl, lost_finished)

pub a_lost_finish_is_done : ALostFinishIsDone
a_lost_finish_is_done = record {
  world = world l30;
  run = lost_run;
  empty = empty_disks;
  between = record {
    proxy = (memory.OfProxy (with_none no_soft (of []) 6), got l27.actors 0 _ refl);
    coordinator = (memory.OfCoord (acknowledged (vote 32 ∷ [])), got l27.actors 1 _ refl);
    directory = (memory.OfSite (site 3 kept), got l27.actors 16 _ refl);
    small = (memory.OfStore (store_of 0 [] []), got l27.actors 32 _ refl);
    node = (memory.OfStore no_store, got l27.actors 48 _ refl);
  };
  ends = record {
    proxy = (memory.OfProxy (with_none no_soft (of []) 6), got l30.actors 0 _ refl);
    coordinator = (memory.OfCoord coordinator_done, got l30.actors 1 _ refl);
    directory = (memory.OfSite (site 3 kept), got l30.actors 16 _ refl);
    small = (memory.OfStore (store_of 0 [] []), got l30.actors 32 _ refl);
    node = (memory.OfStore no_store, got l30.actors 48 _ refl);
  };
}
