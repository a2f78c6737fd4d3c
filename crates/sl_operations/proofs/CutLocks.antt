-- The append of the Lock is cut at the directory server: the operation goes on, whether the next opening finds the record or not.
use Rattle.std.proofs.Common.{◌≡◌, true, List, [], ◌∷◌, ◌++◌, Some, None, refl, sym, ap}
use Rattle.sl_defs.specs.declared.event.Event.TheVariants as event
use Rattle.sl_records.specs.declared.coordinator.LogEntry.TheVariants as log
use Rattle.sl_records.specs.declared.directory.DirRecord.TheVariants as dir
use Rattle.sl_history.specs.Turns.{Sent, Did, Replied, Down}
use Rattle.sl_machine.specs.Records.{Record, cells_of, locked_in, last_finished, started_of, found_object}
use Rattle.sl_machine.specs.Records as records
use Rattle.sl_machine.specs.Memory.{Request, Waiting, Vote, Coord, Actor, low_among, nothing_told, no_soft}
use Rattle.sl_machine.specs.Memory as memory
use Rattle.sl_machine.specs.World.{Given, Ticks, Proceeds, Segment, quiet, sends, scene, after_segment, cut_actor}
use Rattle.sl_machine.specs.Verdicts.{verdict, Answers}
use Rattle.sl_machine.specs.Coordinators as coordinators
use Rattle.sl_machine.specs.Proxies.{notes, by_answer, ends, done_event, operated, frames_again, request_frame}
use Rattle.sl_machine.specs.Proxies as proxy
use Rattle.sl_machine.specs.Openings.{WithoutLimbo, WithLimbo}
use Rattle.sl_machine.specs.Runs.{Run, TurnRun, ByCoordinator, ByProxy, opened_actor}
use Rattle.sl_witness.specs.Histories.{setup, epoch, fence, turn}
use Rattle.sl_witness.proofs.Openings.{no_store, empty_disks}
use Rattle.sl_operations.specs.Histories.{write_reply, intent, new_attributes, new_bytes, lock, grant, apply, decided, kept_write, cut_lock, lock_again, ack}
use Rattle.sl_operations.specs.Runs.{created_records, locked_records, ACutLockIsDone, ALostLockIsDone}
use Rattle.sl_operations.proofs.Maps.{of, got}
use Rattle.sl_operations.proofs.Stages.{Stage, world, Course, later, scene_of, after_all, landed_stage, gives}
use Rattle.sl_operations.proofs.Beginning.{store_opened}
use Rattle.sl_operations.proofs.Singly.{may_use, with_one, with_none, may_rest}
use Rattle.sl_operations.proofs.Serving.{site, keeps, directory_may, store_of, store_may, coordinator, coordinator_may, none_waits}
use Rattle.sl_operations.proofs.Intends.{s18, coordinator_18}
use Rattle.sl_operations.proofs.Intends.{intending, second_request, proxy_17, started_run}
use Rattle.sl_operations.proofs.Decides.{vote, server_16, locks_directory, store_20, locking, write_rests, course_19, course_20}
use Rattle.sl_operations.proofs.Finishes.{finishes_directory, finishes_store}
use Rattle.sl_operations.proofs.CutDecisions.{intent_again, is_sent_again, proxy_again, replies, does_reply, intent_is_new}
use Rattle.sl_operations.proofs.Reopens.{kept, server_of, reads, is_there, reopens, reopens_locked}
use Rattle.sl_operations.proofs.Faults.{cut_stage, cuts, opened_stage, starts, ticked_stage, ticks}

-- ---- the append is cut

abbrev the_lock : Record
the_lock = records.OfDir (dir.Lock 1 fence new_attributes)

abbrev cut_server : Actor
cut_server = cut_actor server_16 the_lock

abbrev pub t19 : Stage
t19 = cut_stage s18 12 16 server_16 the_lock

pub is_cut : TurnRun (world s18) (turn (event.Give 12) (Down 16 ∷ [])) (world t19)
is_cut = cuts s18 12 (lock 16 new_attributes) 13 server_16 locks_directory the_lock refl refl refl course_19.0 refl

-- ---- the small-file server grants

abbrev pub t20 : Stage
t20 = after_all (landed_stage t19 13) 32 store_opened locking

pub is_granted : TurnRun (world t19) (turn (event.Give 13) (Sent 14 (grant 32 1) ∷ [])) (world t20)
is_granted = gives t19 13 (lock 32 new_bytes) 13 store_opened locking refl refl refl course_20

abbrev counts : Segment
counts = quiet (memory.OfCoord (coordinator 5 [] [] (vote 32 ∷ []) [])) []

abbrev coordinator_21 : Actor
coordinator_21 = after_segment coordinator_18 counts

course_is_counted : Course (scene_of t20 1) (Given (grant 32 1) 15 ∷ []) coordinator_18 (counts ∷ [])
unfolding verdict started_of
course_is_counted = (coordinator_may (scene_of t20 1) coordinator_18 5 [] [] [] [] (grant 32 1) 15 counts refl refl refl refl Answers refl refl, refl)

abbrev pub t21 : Stage
t21 = after_all (landed_stage t20 14) 1 coordinator_18 (counts ∷ [])

pub is_counted : TurnRun (world t20) (turn (event.Give 14) ([])) (world t21)
is_counted = gives t20 14 (grant 32 1) 15 coordinator_18 (counts ∷ []) refl refl refl course_is_counted

-- ---- what the others do then

abbrev locks_again : Segment
locks_again = record { append = None; memory = memory.OfCoord (coordinator 5 [] [] (vote 32 ∷ []) []); frames = lock 16 new_attributes ∷ []; notes = []; todo = [] }

abbrev coordinator_23 : Actor
coordinator_23 = after_segment coordinator_21 locks_again

abbrev passes : Segment
passes = quiet (memory.OfCoord (coordinator 5 [] [] (vote 32 ∷ []) [])) []

abbrev coordinator_24 : Actor
coordinator_24 = after_segment coordinator_23 passes

abbrev grants_again : Segment
grants_again = sends (memory.OfSite (site 3 kept)) (grant 16 0) []

abbrev locks_now : Segment
locks_now = record locks_directory { memory = memory.OfSite (site 3 kept) }

abbrev agreeing : List Vote → Coord
agreeing votes = coordinator 5 ((5, decided) ∷ []) [] (vote 16 ∷ vote 32 ∷ []) votes

abbrev decides : Segment
decides = record {
  append = Some (records.OfLog (log.Decide 1 true));
  memory = memory.OfCoord (agreeing []);
  frames = decided ∷ apply 16 ∷ apply 32 ∷ [];
  notes = Did 10 epoch kept_write ∷ [];
  todo = [];
}

abbrev coordinator_26 : Actor
coordinator_26 = after_segment coordinator_24 decides

does_decide : decides ≡ coordinators.by_verdict coordinator_24 (coordinator 5 [] [] (vote 32 ∷ []) []) (grant 16 0) Answers
unfolding started_of
does_decide = ap (λ s. record decides { memory = memory.OfCoord (record (coordinator 5 [] [] (vote 16 ∷ vote 32 ∷ []) []) { site = s }) }) (sym (keeps 5 [] 5 decided))

abbrev server_locked : Actor
server_locked = server_of locked_records

abbrev finishes_it : Segment
finishes_it = record finishes_directory { memory = memory.OfSite (site 3 kept) }

abbrev counts_ack : Segment
counts_ack = quiet (memory.OfCoord (agreeing (vote 16 ∷ []))) []

abbrev coordinator_30 : Actor
coordinator_30 = after_segment coordinator_26 counts_ack

abbrev coordinator_done : Coord
coordinator_done = agreeing (vote 32 ∷ vote 16 ∷ [])

abbrev ends_it : Segment
ends_it = record { append = Some (records.OfLog (log.Done 1)); memory = memory.OfCoord coordinator_done; frames = []; notes = []; todo = Proceeds ∷ [] }

abbrev waits : Segment
waits = quiet (memory.OfCoord coordinator_done) []

-- ---- the record is there: the server is locked, and grants

abbrev pub f22 : Stage
f22 = after_all (opened_stage t21 16 cut_server locked_records ([])) 16 (opened_actor cut_server locked_records) (reads ∷ is_there ∷ [])

pub found_opened : TurnRun (world t21) (turn (event.Start 16) ([])) (world f22)
found_opened = starts t21 16 cut_server locked_records 4 (reads ∷ is_there ∷ []) ([]) refl refl refl (WithLimbo the_lock refl refl) refl refl (reopens_locked 17 (of []))

course_found_ticked : Course (scene_of f22 0) (Ticks ∷ []) proxy_17 (intent_again ∷ [])
course_found_ticked = (ByProxy (with_one no_soft (of []) 10 intending 6) refl refl (proxy.IsSentAgain refl (record { does = is_sent_again })), refl)

log_found_ticked : Course (scene (world (ticked_stage f22 proxy_17 (intent_again ∷ []))) 1) (Ticks ∷ []) coordinator_21 (locks_again ∷ [])
unfolding started_of
log_found_ticked = (ByCoordinator (coordinator 5 [] [] (vote 32 ∷ []) []) refl refl (coordinators.IsSentAgain refl (record { does = refl })), refl)

abbrev pub f23 : Stage
f23 = after_all (ticked_stage f22 proxy_17 (intent_again ∷ [])) 1 coordinator_21 (locks_again ∷ [])

pub found_ticked : TurnRun (world f22) (turn event.Tick (Sent 15 intent ∷ Sent 16 (lock 16 new_attributes) ∷ [])) (world f23)
found_ticked = ticks f22 proxy_17 (intent_again ∷ []) coordinator_21 (locks_again ∷ []) refl refl course_found_ticked refl refl log_found_ticked

course_found_passed : Course (scene_of f23 1) (Given intent 18 ∷ []) coordinator_23 (passes ∷ [])
unfolding started_of
course_found_passed = (coordinator_may (scene_of f23 1) coordinator_23 5 [] [] (vote 32 ∷ []) [] intent 18 passes refl refl refl refl Answers intent_is_new refl, refl)

abbrev pub f24 : Stage
f24 = after_all (landed_stage f23 15) 1 coordinator_23 (passes ∷ [])

pub found_passed : TurnRun (world f23) (turn (event.Give 15) ([])) (world f24)
found_passed = gives f23 15 intent 18 coordinator_23 (passes ∷ []) refl refl refl course_found_passed

course_found_granted : Course (scene_of f24 16) (Given (lock 16 new_attributes) 18 ∷ []) (server_of locked_records) (grants_again ∷ [])
unfolding verdict locked_in last_finished
course_found_granted = (directory_may (scene_of f24 16) (server_of locked_records) 3 kept (lock 16 new_attributes) 18 grants_again refl refl refl refl Answers refl refl, refl)

abbrev pub f25 : Stage
f25 = after_all (landed_stage f24 16) 16 (server_of locked_records) (grants_again ∷ [])

pub found_granted : TurnRun (world f24) (turn (event.Give 16) (Sent 17 (grant 16 0) ∷ [])) (world f25)
found_granted = gives f24 16 (lock 16 new_attributes) 18 (server_of locked_records) (grants_again ∷ []) refl refl refl course_found_granted

course_found_decided : Course (scene_of f25 1) (Given (grant 16 0) 20 ∷ []) coordinator_24 (decides ∷ [])
unfolding verdict
course_found_decided = (coordinator_may (scene_of f25 1) coordinator_24 5 [] [] (vote 32 ∷ []) [] (grant 16 0) 20 decides refl refl refl refl Answers refl does_decide, refl)

abbrev pub f26 : Stage
f26 = after_all (landed_stage f25 17) 1 coordinator_24 (decides ∷ [])

pub found_decided : TurnRun (world f25) (turn (event.Give 17) (Sent 18 decided ∷ Sent 19 (apply 16) ∷ Sent 20 (apply 32) ∷ Did 10 epoch kept_write ∷ [])) (world f26)
found_decided = gives f25 17 (grant 16 0) 20 coordinator_24 (decides ∷ []) refl refl refl course_found_decided

course_found_replied : Course (scene_of f26 0) (Given decided 21 ∷ []) proxy_again (replies 21 ∷ write_rests ∷ [])
course_found_replied = (
  may_use (scene_of f26 0) proxy_again no_soft (of []) 10 6 intending second_request decided 21 _ refl refl refl refl refl refl refl refl (does_reply 21 22 21),
  (may_rest (later (scene_of f26 0) (replies 21)) (after_segment proxy_again (replies 21)) no_soft (of []) 6 refl refl, refl),
)

abbrev pub f27 : Stage
f27 = after_all (landed_stage f26 18) 0 proxy_again (replies 21 ∷ write_rests ∷ [])

pub found_replied : TurnRun (world f26) (turn (event.Give 18) (Replied 10 21 write_reply ∷ [])) (world f27)
found_replied = gives f26 18 decided 21 proxy_again (replies 21 ∷ write_rests ∷ []) refl refl refl course_found_replied

course_found_applied : Course (scene_of f27 16) (Given (apply 16) 21 ∷ []) server_locked (finishes_it ∷ [])
unfolding verdict locked_in last_finished
course_found_applied = (directory_may (scene_of f27 16) server_locked 3 kept (apply 16) 21 finishes_it refl refl refl refl Answers refl refl, refl)

abbrev pub f28 : Stage
f28 = after_all (landed_stage f27 19) 16 server_locked (finishes_it ∷ [])

pub found_applied : TurnRun (world f27) (turn (event.Give 19) (Sent 21 (ack 16 0) ∷ [])) (world f28)
found_applied = gives f27 19 (apply 16) 21 server_locked (finishes_it ∷ []) refl refl refl course_found_applied

course_found_both_applied : Course (scene_of f28 32) (Given (apply 32) 21 ∷ []) store_20 (finishes_store ∷ [])
unfolding verdict locked_in last_finished
course_found_both_applied = (store_may (scene_of f28 32) store_20 0 [] [] (apply 32) 21 finishes_store refl refl refl refl Answers refl refl, refl)

abbrev pub f29 : Stage
f29 = after_all (landed_stage f28 20) 32 store_20 (finishes_store ∷ [])

pub found_both_applied : TurnRun (world f28) (turn (event.Give 20) (Sent 22 (ack 32 1) ∷ [])) (world f29)
found_both_applied = gives f28 20 (apply 32) 21 store_20 (finishes_store ∷ []) refl refl refl course_found_both_applied

course_found_acknowledged : Course (scene_of f29 1) (Given (ack 16 0) 23 ∷ []) coordinator_26 (counts_ack ∷ [])
unfolding verdict started_of
course_found_acknowledged = (coordinator_may (scene_of f29 1) coordinator_26 5 ((5, decided) ∷ []) [] (vote 16 ∷ vote 32 ∷ []) [] (ack 16 0) 23 counts_ack refl refl refl refl Answers refl refl, refl)

abbrev pub f30 : Stage
f30 = after_all (landed_stage f29 21) 1 coordinator_26 (counts_ack ∷ [])

pub found_acknowledged : TurnRun (world f29) (turn (event.Give 21) ([])) (world f30)
found_acknowledged = gives f29 21 (ack 16 0) 23 coordinator_26 (counts_ack ∷ []) refl refl refl course_found_acknowledged

course_found_finished : Course (scene_of f30 1) (Given (ack 32 1) 24 ∷ []) coordinator_30 (ends_it ∷ waits ∷ [])
unfolding verdict started_of
course_found_finished = (
  coordinator_may (scene_of f30 1) coordinator_30 5 ((5, decided) ∷ []) [] (vote 16 ∷ vote 32 ∷ []) (vote 16 ∷ []) (ack 32 1) 24 ends_it refl refl refl refl Answers refl refl,
  (ByCoordinator coordinator_done refl refl (coordinators.IsResting refl (record { none = none_waits _; unowed = refl; does = refl })), refl),
)

abbrev pub f31 : Stage
f31 = after_all (landed_stage f30 22) 1 coordinator_30 (ends_it ∷ waits ∷ [])

pub found_finished : TurnRun (world f30) (turn (event.Give 22) ([])) (world f31)
found_finished = gives f30 22 (ack 32 1) 24 coordinator_30 (ends_it ∷ waits ∷ []) refl refl refl course_found_finished

abbrev pub found_run : Run setup (lock_again ++ cut_lock) (world f31)
found_run = (world f30, (world f29, (world f28, (world f27, (world f26, (world f25, (world f24, (world f23, (world f22, (world t21, (world t20, (world t19, (world s18, started_run, refl, is_cut), refl, is_granted), refl, is_counted), refl, found_opened), refl, found_ticked), refl, found_passed), refl, found_granted), refl, found_decided), refl, found_replied), refl, found_applied), refl, found_both_applied), refl, found_acknowledged), refl, found_finished)

pub a_cut_lock_is_done : ACutLockIsDone
a_cut_lock_is_done = record {
  world = world f31;
  run = found_run;
  empty = empty_disks;
  between = record {
    proxy = (memory.OfProxy (with_one no_soft (of []) 10 intending 6), got f22.actors 0 _ refl);
    coordinator = (memory.OfCoord (coordinator 5 [] [] (vote 32 ∷ []) []), got f22.actors 1 _ refl);
    directory = (memory.OfSite (site 3 kept), got f22.actors 16 _ refl);
    small = (memory.OfStore (store_of 0 [] []), got f22.actors 32 _ refl);
    node = (memory.OfStore no_store, got f22.actors 48 _ refl);
  };
  ends = record {
    proxy = (memory.OfProxy (with_none no_soft (of []) 6), got f31.actors 0 _ refl);
    coordinator = (memory.OfCoord coordinator_done, got f31.actors 1 _ refl);
    directory = (memory.OfSite (site 3 kept), got f31.actors 16 _ refl);
    small = (memory.OfStore (store_of 0 [] []), got f31.actors 32 _ refl);
    node = (memory.OfStore no_store, got f31.actors 48 _ refl);
  };
}

-- ---- the record isn't there: the server is locked now

abbrev pub l22 : Stage
l22 = after_all (opened_stage t21 16 cut_server created_records ([])) 16 (opened_actor cut_server created_records) (reads ∷ is_there ∷ [])

pub lost_opened : TurnRun (world t21) (turn (event.Start 16) ([])) (world l22)
lost_opened = starts t21 16 cut_server created_records 4 (reads ∷ is_there ∷ []) ([]) refl refl refl (WithoutLimbo refl) refl refl (reopens 17 (of []))

course_lost_ticked : Course (scene_of l22 0) (Ticks ∷ []) proxy_17 (intent_again ∷ [])
course_lost_ticked = (ByProxy (with_one no_soft (of []) 10 intending 6) refl refl (proxy.IsSentAgain refl (record { does = is_sent_again })), refl)

log_lost_ticked : Course (scene (world (ticked_stage l22 proxy_17 (intent_again ∷ []))) 1) (Ticks ∷ []) coordinator_21 (locks_again ∷ [])
unfolding started_of
log_lost_ticked = (ByCoordinator (coordinator 5 [] [] (vote 32 ∷ []) []) refl refl (coordinators.IsSentAgain refl (record { does = refl })), refl)

abbrev pub l23 : Stage
l23 = after_all (ticked_stage l22 proxy_17 (intent_again ∷ [])) 1 coordinator_21 (locks_again ∷ [])

pub lost_ticked : TurnRun (world l22) (turn event.Tick (Sent 15 intent ∷ Sent 16 (lock 16 new_attributes) ∷ [])) (world l23)
lost_ticked = ticks l22 proxy_17 (intent_again ∷ []) coordinator_21 (locks_again ∷ []) refl refl course_lost_ticked refl refl log_lost_ticked

course_lost_passed : Course (scene_of l23 1) (Given intent 18 ∷ []) coordinator_23 (passes ∷ [])
unfolding started_of
course_lost_passed = (coordinator_may (scene_of l23 1) coordinator_23 5 [] [] (vote 32 ∷ []) [] intent 18 passes refl refl refl refl Answers intent_is_new refl, refl)

abbrev pub l24 : Stage
l24 = after_all (landed_stage l23 15) 1 coordinator_23 (passes ∷ [])

pub lost_passed : TurnRun (world l23) (turn (event.Give 15) ([])) (world l24)
lost_passed = gives l23 15 intent 18 coordinator_23 (passes ∷ []) refl refl refl course_lost_passed

course_lost_granted : Course (scene_of l24 16) (Given (lock 16 new_attributes) 18 ∷ []) (server_of created_records) (locks_now ∷ [])
unfolding verdict locked_in last_finished
course_lost_granted = (directory_may (scene_of l24 16) (server_of created_records) 3 kept (lock 16 new_attributes) 18 locks_now refl refl refl refl Answers refl refl, refl)

abbrev pub l25 : Stage
l25 = after_all (landed_stage l24 16) 16 (server_of created_records) (locks_now ∷ [])

pub lost_granted : TurnRun (world l24) (turn (event.Give 16) (Sent 17 (grant 16 0) ∷ [])) (world l25)
lost_granted = gives l24 16 (lock 16 new_attributes) 18 (server_of created_records) (locks_now ∷ []) refl refl refl course_lost_granted

course_lost_decided : Course (scene_of l25 1) (Given (grant 16 0) 20 ∷ []) coordinator_24 (decides ∷ [])
unfolding verdict
course_lost_decided = (coordinator_may (scene_of l25 1) coordinator_24 5 [] [] (vote 32 ∷ []) [] (grant 16 0) 20 decides refl refl refl refl Answers refl does_decide, refl)

abbrev pub l26 : Stage
l26 = after_all (landed_stage l25 17) 1 coordinator_24 (decides ∷ [])

pub lost_decided : TurnRun (world l25) (turn (event.Give 17) (Sent 18 decided ∷ Sent 19 (apply 16) ∷ Sent 20 (apply 32) ∷ Did 10 epoch kept_write ∷ [])) (world l26)
lost_decided = gives l25 17 (grant 16 0) 20 coordinator_24 (decides ∷ []) refl refl refl course_lost_decided

course_lost_replied : Course (scene_of l26 0) (Given decided 21 ∷ []) proxy_again (replies 21 ∷ write_rests ∷ [])
course_lost_replied = (
  may_use (scene_of l26 0) proxy_again no_soft (of []) 10 6 intending second_request decided 21 _ refl refl refl refl refl refl refl refl (does_reply 21 22 21),
  (may_rest (later (scene_of l26 0) (replies 21)) (after_segment proxy_again (replies 21)) no_soft (of []) 6 refl refl, refl),
)

abbrev pub l27 : Stage
l27 = after_all (landed_stage l26 18) 0 proxy_again (replies 21 ∷ write_rests ∷ [])

pub lost_replied : TurnRun (world l26) (turn (event.Give 18) (Replied 10 21 write_reply ∷ [])) (world l27)
lost_replied = gives l26 18 decided 21 proxy_again (replies 21 ∷ write_rests ∷ []) refl refl refl course_lost_replied

course_lost_applied : Course (scene_of l27 16) (Given (apply 16) 21 ∷ []) server_locked (finishes_it ∷ [])
unfolding verdict locked_in last_finished
course_lost_applied = (directory_may (scene_of l27 16) server_locked 3 kept (apply 16) 21 finishes_it refl refl refl refl Answers refl refl, refl)

abbrev pub l28 : Stage
l28 = after_all (landed_stage l27 19) 16 server_locked (finishes_it ∷ [])

pub lost_applied : TurnRun (world l27) (turn (event.Give 19) (Sent 21 (ack 16 0) ∷ [])) (world l28)
lost_applied = gives l27 19 (apply 16) 21 server_locked (finishes_it ∷ []) refl refl refl course_lost_applied

course_lost_both_applied : Course (scene_of l28 32) (Given (apply 32) 21 ∷ []) store_20 (finishes_store ∷ [])
unfolding verdict locked_in last_finished
course_lost_both_applied = (store_may (scene_of l28 32) store_20 0 [] [] (apply 32) 21 finishes_store refl refl refl refl Answers refl refl, refl)

abbrev pub l29 : Stage
l29 = after_all (landed_stage l28 20) 32 store_20 (finishes_store ∷ [])

pub lost_both_applied : TurnRun (world l28) (turn (event.Give 20) (Sent 22 (ack 32 1) ∷ [])) (world l29)
lost_both_applied = gives l28 20 (apply 32) 21 store_20 (finishes_store ∷ []) refl refl refl course_lost_both_applied

course_lost_acknowledged : Course (scene_of l29 1) (Given (ack 16 0) 23 ∷ []) coordinator_26 (counts_ack ∷ [])
unfolding verdict started_of
course_lost_acknowledged = (coordinator_may (scene_of l29 1) coordinator_26 5 ((5, decided) ∷ []) [] (vote 16 ∷ vote 32 ∷ []) [] (ack 16 0) 23 counts_ack refl refl refl refl Answers refl refl, refl)

abbrev pub l30 : Stage
l30 = after_all (landed_stage l29 21) 1 coordinator_26 (counts_ack ∷ [])

pub lost_acknowledged : TurnRun (world l29) (turn (event.Give 21) ([])) (world l30)
lost_acknowledged = gives l29 21 (ack 16 0) 23 coordinator_26 (counts_ack ∷ []) refl refl refl course_lost_acknowledged

course_lost_finished : Course (scene_of l30 1) (Given (ack 32 1) 24 ∷ []) coordinator_30 (ends_it ∷ waits ∷ [])
unfolding verdict started_of
course_lost_finished = (
  coordinator_may (scene_of l30 1) coordinator_30 5 ((5, decided) ∷ []) [] (vote 16 ∷ vote 32 ∷ []) (vote 16 ∷ []) (ack 32 1) 24 ends_it refl refl refl refl Answers refl refl,
  (ByCoordinator coordinator_done refl refl (coordinators.IsResting refl (record { none = none_waits _; unowed = refl; does = refl })), refl),
)

abbrev pub l31 : Stage
l31 = after_all (landed_stage l30 22) 1 coordinator_30 (ends_it ∷ waits ∷ [])

pub lost_finished : TurnRun (world l30) (turn (event.Give 22) ([])) (world l31)
lost_finished = gives l30 22 (ack 32 1) 24 coordinator_30 (ends_it ∷ waits ∷ []) refl refl refl course_lost_finished

abbrev pub lost_run : Run setup (lock_again ++ cut_lock) (world l31)
lost_run = (world l30, (world l29, (world l28, (world l27, (world l26, (world l25, (world l24, (world l23, (world l22, (world t21, (world t20, (world t19, (world s18, started_run, refl, is_cut), refl, is_granted), refl, is_counted), refl, lost_opened), refl, lost_ticked), refl, lost_passed), refl, lost_granted), refl, lost_decided), refl, lost_replied), refl, lost_applied), refl, lost_both_applied), refl, lost_acknowledged), refl, lost_finished)

pub a_lost_lock_is_done : ALostLockIsDone
a_lost_lock_is_done = record {
  world = world l31;
  run = lost_run;
  empty = empty_disks;
  between = record {
    proxy = (memory.OfProxy (with_one no_soft (of []) 10 intending 6), got l22.actors 0 _ refl);
    coordinator = (memory.OfCoord (coordinator 5 [] [] (vote 32 ∷ []) []), got l22.actors 1 _ refl);
    directory = (memory.OfSite (site 3 kept), got l22.actors 16 _ refl);
    small = (memory.OfStore (store_of 0 [] []), got l22.actors 32 _ refl);
    node = (memory.OfStore no_store, got l22.actors 48 _ refl);
  };
  ends = record {
    proxy = (memory.OfProxy (with_none no_soft (of []) 6), got l31.actors 0 _ refl);
    coordinator = (memory.OfCoord coordinator_done, got l31.actors 1 _ refl);
    directory = (memory.OfSite (site 3 kept), got l31.actors 16 _ refl);
    small = (memory.OfStore (store_of 0 [] []), got l31.actors 32 _ refl);
    node = (memory.OfStore no_store, got l31.actors 48 _ refl);
  };
}
