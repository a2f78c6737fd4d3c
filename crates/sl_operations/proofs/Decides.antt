-- A stable WRITE: the Locks, the decision, and the reply.
use Rattle.std.proofs.Common.{◌≡◌, ℕ, true, List, [], ◌∷◌, Some, refl, sym, ap, ◌∙◌, lit<, unwrap_or}
use Rattle.sl_defs.specs.declared.event.Event.TheVariants as event
use Rattle.sl_records.specs.declared.coordinator.LogEntry.TheVariants as log
use Rattle.sl_records.specs.declared.directory.DirRecord.TheVariants as dir
use Rattle.sl_records.specs.declared.data_server.DataRecord.TheVariants as stored
use Rattle.sl_frames.specs.declared.body.Body.TheVariants as body
use Rattle.sl_history.specs.Turns.{Sent, Did, Replied}
use Rattle.sl_history.specs.Arrivals.{answer_to}
use Rattle.sl_machine.specs.Records.{Record, cells_of, locked_in, last_finished, started_of, found_object}
use Rattle.sl_machine.specs.Records as records
use Rattle.sl_machine.specs.Memory.{Request, Waiting, Vote, Actor, nothing_told, no_soft}
use Rattle.sl_machine.specs.Memory as memory
use Rattle.sl_machine.specs.World.{Scene, Given, Wakes, Segment, quiet, after_segment}
use Rattle.sl_machine.specs.Verdicts.{verdict, Answers}
use Rattle.sl_machine.specs.Stores as store
use Rattle.sl_machine.specs.Coordinators as coordinators
use Rattle.sl_machine.specs.Proxies.{still, notes, by_answer, ends, done_event, operated}
use Rattle.sl_machine.specs.Runs.{Run, TurnRun, ByStore}
use Rattle.sl_witness.specs.Histories.{setup, epoch, fence, turn}
use Rattle.sl_witness.proofs.Openings.{no_store}
use Rattle.sl_operations.specs.Histories.{write_reply, the_intent, new_attributes, new_bytes, lock, grant, apply, decided, kept_write, replied}
use Rattle.sl_operations.proofs.Maps.{of, got_one, removed}
use Rattle.sl_operations.proofs.Stages.{Stage, world, Course, later, scene_of, after_all, landed_stage, gives}
use Rattle.sl_operations.proofs.Beginning.{store_opened}
use Rattle.sl_operations.proofs.Singly.{may_use, with_one, with_none, ends_one, may_rest}
use Rattle.sl_operations.proofs.Serving.{site, keeps, directory_may, store_of, store_may, coordinator, coordinator_may}
use Rattle.sl_operations.proofs.Creates.{server_13}
use Rattle.sl_operations.proofs.Writing.{is_operated}
use Rattle.sl_operations.proofs.Intends.{intending, second_request, proxy_17, tells, coordinator_18, s18, started_run}

-- ---- the directory server is locked

abbrev pub vote : ℕ → Vote
vote server = record { op = 1; server = server }

abbrev pub x19 : Scene
x19 = scene_of s18 16

abbrev pub server_16 : Actor
server_16 = after_segment server_13 tells

abbrev pub locks_directory : Segment
locks_directory = record {
  append = Some (records.OfDir (dir.Lock 1 fence new_attributes));
  memory = memory.OfSite (site 4 []);
  frames = grant 16 0 ∷ [];
  notes = [];
  todo = [];
}

pub course_19 : Course x19 (Given (lock 16 new_attributes) 13 ∷ []) server_16 (locks_directory ∷ [])
unfolding verdict locked_in last_finished
course_19 = (directory_may x19 server_16 4 [] (lock 16 new_attributes) 13 locks_directory refl refl refl refl Answers refl refl, refl)

abbrev pub s19 : Stage
s19 = after_all (landed_stage s18 12) 16 server_16 (locks_directory ∷ [])

pub is_locked : TurnRun (world s18) (turn (event.Give 12) (Sent 14 (grant 16 0) ∷ [])) (world s19)
is_locked = gives s18 12 (lock 16 new_attributes) 13 server_16 (locks_directory ∷ []) refl refl refl course_19

-- ---- the small-file server is locked

abbrev pub x20 : Scene
x20 = scene_of s19 32

abbrev pub renews : Segment
renews = quiet (memory.OfStore (store_of 0 [] [])) (Given (lock 32 new_bytes) 13 ∷ [])

abbrev pub locks_store : Segment
locks_store = record {
  append = Some (records.OfData (stored.Lock 1 fence new_bytes));
  memory = memory.OfStore (store_of 0 [] []);
  frames = grant 32 1 ∷ [];
  notes = [];
  todo = [];
}

abbrev pub store_20a : Actor
store_20a = after_segment store_opened renews

abbrev pub store_20 : Actor
store_20 = after_segment store_20a locks_store

abbrev pub locking : List Segment
locking = renews ∷ locks_store ∷ []

pub course_20 : Course x20 (Given (lock 32 new_bytes) 13 ∷ []) store_opened locking
unfolding verdict locked_in last_finished
course_20 = (
  ByStore no_store refl refl (store.IsRenewed (lock 32 new_bytes) 13 refl (record { greater = lit< tt; does = refl })),
  (store_may x20 store_20a 0 [] [] (lock 32 new_bytes) 13 locks_store refl refl refl refl Answers refl refl, refl),
)

abbrev pub s20 : Stage
s20 = after_all (landed_stage s19 13) 32 store_opened locking

pub both_are_locked : TurnRun (world s19) (turn (event.Give 13) (Sent 15 (grant 32 1) ∷ [])) (world s20)
both_are_locked = gives s19 13 (lock 32 new_bytes) 13 store_opened locking refl refl refl course_20

-- ---- the first Grant

abbrev pub x21 : Scene
x21 = scene_of s20 1

abbrev pub counts : Segment
counts = quiet (memory.OfCoord (coordinator 5 [] [] (vote 16 ∷ []) [])) []

pub course_21 : Course x21 (Given (grant 16 0) 14 ∷ []) coordinator_18 (counts ∷ [])
unfolding verdict started_of
course_21 = (coordinator_may x21 coordinator_18 5 [] [] [] [] (grant 16 0) 14 counts refl refl refl refl Answers refl refl, refl)

abbrev pub s21 : Stage
s21 = after_all (landed_stage s20 14) 1 coordinator_18 (counts ∷ [])

pub is_counted : TurnRun (world s20) (turn (event.Give 14) []) (world s21)
is_counted = gives s20 14 (grant 16 0) 14 coordinator_18 (counts ∷ []) refl refl refl course_21

-- ---- the last one decides

abbrev pub x22 : Scene
x22 = scene_of s21 1

abbrev pub coordinator_21 : Actor
coordinator_21 = after_segment coordinator_18 counts

abbrev pub decides : Segment
decides = record {
  append = Some (records.OfLog (log.Decide 1 true));
  memory = memory.OfCoord (coordinator 5 ((5, decided) ∷ []) [] (vote 32 ∷ vote 16 ∷ []) []);
  frames = decided ∷ apply 16 ∷ apply 32 ∷ [];
  notes = Did 10 epoch kept_write ∷ [];
  todo = [];
}

abbrev pub coordinator_22 : Actor
coordinator_22 = after_segment coordinator_21 decides

does_decide : decides ≡ coordinators.by_verdict coordinator_21 (coordinator 5 [] [] (vote 16 ∷ []) []) (grant 32 1) Answers
unfolding started_of
does_decide = ap (λ s. record decides { memory = memory.OfCoord (record (coordinator 5 [] [] (vote 32 ∷ vote 16 ∷ []) []) { site = s }) }) (sym (keeps 5 [] 5 decided))

pub course_22 : Course x22 (Given (grant 32 1) 15 ∷ []) coordinator_21 (decides ∷ [])
unfolding verdict
course_22 = (coordinator_may x22 coordinator_21 5 [] [] (vote 16 ∷ []) [] (grant 32 1) 15 decides refl refl refl refl Answers refl does_decide, refl)

abbrev pub s22 : Stage
s22 = after_all (landed_stage s21 15) 1 coordinator_21 (decides ∷ [])

pub is_decided : TurnRun (world s21) (turn (event.Give 15) (Sent 16 decided ∷ Sent 17 (apply 16) ∷ Sent 18 (apply 32) ∷ Did 10 epoch kept_write ∷ [])) (world s22)
is_decided = gives s21 15 (grant 32 1) 15 coordinator_21 (decides ∷ []) refl refl refl course_22

-- ---- the proxy replies

abbrev pub x23 : Scene
x23 = scene_of s22 0

abbrev pub write_replies : Segment
write_replies = notes (with_none no_soft (of []) 6) (Replied 10 17 write_reply ∷ []) (Wakes ∷ [])

abbrev pub write_rests : Segment
write_rests = still (with_none no_soft (of []) 6) []

abbrev proxy_23a : Actor
proxy_23a = after_segment proxy_17 write_replies

abbrev pub proxy_23 : Actor
proxy_23 = after_segment proxy_23a write_rests

does_reply : write_replies ≡ by_answer x23 (with_one no_soft (of []) 10 intending 6) 10 intending 17 1 (body.Intent the_intent) (body.Decided true)
does_reply =
    ends_one no_soft no_soft (of []) 10 6 intending (Replied 10 17 write_reply ∷ [])
    ∙ sym (
    ap (λ m. ends (with_one no_soft (of []) 10 intending 6) 10 (record no_soft { dirty = m }) (Replied 10 (done_event x23 10) (answer_to intending.asked (operated (with_one no_soft (of []) 10 intending 6) intending epoch kept_write).answer) ∷ [])) (removed [] 2)
    ∙ (ap (λ r. ends (with_one no_soft (of []) 10 intending 6) 10 no_soft (Replied 10 (done_event x23 10) (answer_to intending.asked r) ∷ [])) is_operated
    ∙ ap (λ o. ends (with_one no_soft (of []) 10 intending 6) 10 no_soft (Replied 10 (unwrap_or o 18) write_reply ∷ [])) (got_one 10 17)))

abbrev replying : List Segment
replying = write_replies ∷ write_rests ∷ []

pub course_23 : Course x23 (Given decided 17 ∷ []) proxy_17 replying
course_23 = (
  may_use x23 proxy_17 no_soft (of []) 10 6 intending second_request decided 17 _ refl refl refl refl refl refl refl refl does_reply,
  (may_rest (later x23 write_replies) proxy_23a no_soft (of []) 6 refl refl, refl),
)

abbrev pub s23 : Stage
s23 = after_all (landed_stage s22 16) 0 proxy_17 replying

pub is_replied : TurnRun (world s22) (turn (event.Give 16) (Replied 10 17 write_reply ∷ [])) (world s23)
is_replied = gives s22 16 decided 17 proxy_17 replying refl refl refl course_23

abbrev pub replied_run : Run setup replied (world s23)
replied_run = (world s22, (world s21, (world s20, (world s19, (world s18, started_run, refl, is_locked), refl, both_are_locked), refl, is_counted), refl, is_decided), refl, is_replied)
