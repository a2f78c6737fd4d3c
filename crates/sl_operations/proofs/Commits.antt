-- COMMIT: the file is flushed by an operation on the directory server and the small-file server, and the client has its reply.
use Rattle.std.proofs.Common.{◌≡◌, ℕ, true, List, [], ◌∷◌, Option, Some, None, refl, sym, ap, ◌∙◌, unwrap_or}
use Rattle.std.specs.Ordering.{nat_cmp}
use Rattle.std.specs.FinMap.{FinMap, remove}
use Rattle.sl_defs.specs.declared.event.Event.TheVariants as event
use Rattle.sl_records.specs.declared.coordinator.LogEntry.TheVariants as log
use Rattle.sl_records.specs.declared.directory.DirRecord.TheVariants as dir
use Rattle.sl_records.specs.declared.data_server.DataRecord.TheVariants as stored
use Rattle.sl_frames.specs.declared.body.Body.TheVariants as body
use Rattle.sl_model.specs.Looking.{attributes}
use Rattle.sl_history.specs.Turns.{Sent, Flush, Replied}
use Rattle.sl_history.specs.Placing.{carrier}
use Rattle.sl_machine.specs.Records.{Record, cells_of, locked_in, last_finished, started_of, found_object}
use Rattle.sl_machine.specs.Records as records
use Rattle.sl_machine.specs.Memory.{Request, Waiting, Coord, Vote, Store, Dirty, Actor, nothing_told, dirty_attributes, flushed_by, touched}
use Rattle.sl_machine.specs.Memory as memory
use Rattle.sl_machine.specs.World.{Scene, Given, Arrives, Goes, Wakes, Proceeds, Segment, quiet, sends, after_segment}
use Rattle.sl_machine.specs.Verdicts.{verdict, Answers, for_coordinator, kept_or}
use Rattle.sl_machine.specs.Coordinators as coordinators
use Rattle.sl_machine.specs.Proxies.{still, notes, does_want, asks, with_request, by_answer, goes_on, answered, intent_of, with_call, with_own}
use Rattle.sl_machine.specs.Proxies as proxy
use Rattle.sl_machine.specs.Parts.{flush_parts}
use Rattle.sl_machine.specs.Wants.{wants}
use Rattle.sl_machine.specs.Runs.{Run, TurnRun, ByCoordinator, ByProxy}
use Rattle.sl_witness.specs.Histories.{setup, epoch, fence, turn}
use Rattle.sl_witness.proofs.Openings.{no_store, empty_disks}
use Rattle.sl_operations.specs.Histories.{written_node, write_packet, new_attributes, commit_call, commit_reply, kept_bytes, keep, the_flush, flush, part, flush_decided, lock_buffered, lock, grant, apply, ack, flushed}
use Rattle.sl_operations.specs.Runs.{flush_begun, AWriteIsFlushed}
use Rattle.sl_operations.proofs.Maps.{of, got, emptied, replaced}
use Rattle.sl_operations.proofs.Stages.{Stage, world, Course, later, scene_of, after_all, begun_stage, landed_stage, gives, calls}
use Rattle.sl_operations.proofs.Beginning.{coordinator_welcomed}
use Rattle.sl_operations.proofs.Singly.{may_use, with_one, with_none, takes_one, locks_one, asks_one, goes_on_one, ends_one, may_go, may_rest}
use Rattle.sl_operations.proofs.Serving.{site, keeps, directory_may, store_of, store_may, coordinator, coordinator_may, none_waits}
use Rattle.sl_operations.proofs.Creating.{file_hold}
use Rattle.sl_operations.proofs.Intends.{tells}
use Rattle.sl_operations.proofs.Creates.{server_13}
use Rattle.sl_operations.proofs.Buffers.{the_dirt, soft_dirty, first_boots, the_buffer, buffering, store_18, proxy_19, s19, buffered_run}
use Rattle.sl_operations.proofs.Committing.{commit_is_asked, with_own_told, soft_clean, committing, wants_lock, wants_flush, wants_recall, wants_answer}

-- ---- the call arrives, and the file is flushed first

abbrev bytes : List ℕ
bytes = commit_call 9 0

abbrev new_call : Waiting
new_call = committing [] nothing_told 0

abbrev held_call : Waiting
held_call = committing (file_hold ∷ []) nothing_told 0

abbrev flush_request : Request
flush_request = record { tag = 6; to = 1; boot = 0; «body» = body.Intent the_flush }

abbrev flushing : Waiting
flushing = with_request flush_request held_call

-- a segment after which this call waits and goes on
abbrev going : Waiting → Segment
going w = still (with_one soft_dirty first_boots 15 w 6) (Goes 15 ∷ [])

abbrev sends_flush : Segment
sends_flush = sends (memory.OfProxy (with_one soft_dirty first_boots 15 flushing 7)) (flush 15) []

abbrev x20 : Scene
x20 = scene_of s19 0

abbrev proxy_20a : Actor
proxy_20a = after_segment proxy_19 (going new_call)

abbrev proxy_20b : Actor
proxy_20b = after_segment proxy_20a (going held_call)

abbrev proxy_20 : Actor
proxy_20 = after_segment proxy_20b sends_flush

asks_flush : sends_flush ≡ does_want x20 (with_one soft_dirty first_boots 15 held_call 6) 15 held_call (wants setup (with_one soft_dirty first_boots 15 held_call 6) epoch held_call)
unfolding flush_parts carrier
asks_flush =
    let p = with_one soft_dirty first_boots 15 held_call 6 in
    asks_one soft_dirty first_boots 15 held_call flush_request refl
    ∙ sym (
    ap (does_want x20 p 15 held_call) (wants_flush 15)
    ∙ (ap (λ o. asks p 15 held_call (record flush_request { «body» = proxy.flush_of x20 p 2 o })) (got ((2, the_dirt) ∷ []) 2 (Some the_dirt) refl)
    ∙ ap (λ o. asks p 15 held_call (record flush_request { «body» = body.Intent (record the_flush { parts = part 16 new_attributes ∷ record (part 32 keep) { boot = unwrap_or o 0 } ∷ [] }) })) (got ((32, 1) ∷ []) 32 (Some 1) refl)))

abbrev taking : List Segment
taking = going new_call ∷ going held_call ∷ sends_flush ∷ []

course_20 : Course x20 (Arrives 15 0 bytes ∷ []) proxy_19 taking
course_20 = (
  ByProxy (with_none soft_dirty first_boots 6) refl refl (proxy.IsTaken 15 0 bytes refl (record { does = takes_one soft_dirty first_boots 15 0 6 bytes _ commit_is_asked })),
  (
    may_go x20 proxy_20a soft_dirty first_boots 15 6 new_call _ refl refl refl (locks_one x20 soft_dirty first_boots 15 6 new_call (file_hold ∷ []) (wants_lock 15)),
    (may_go x20 proxy_20b soft_dirty first_boots 15 6 held_call _ refl refl refl asks_flush, refl),
  ),
)

abbrev pub s20 : Stage
s20 = after_all (begun_stage s19) 0 proxy_19 taking

pub is_asked : TurnRun (world s19) (turn (event.Call 0 bytes) (Sent 13 (flush 15) ∷ [])) (world s20)
is_asked = calls s19 0 bytes proxy_19 taking refl refl course_20

-- ---- the coordinator records it, and asks for the Locks

abbrev enqueues : Segment
enqueues = quiet (memory.OfCoord (coordinator 6 [] (flush 15 ∷ []) [] [])) (Proceeds ∷ [])

abbrev starts : Segment
starts = record {
  append = Some (records.OfLog (log.Intent (flush_begun 15)));
  memory = memory.OfCoord (coordinator 6 [] [] [] []);
  frames = lock 16 new_attributes ∷ lock_buffered ∷ [];
  notes = [];
  todo = Proceeds ∷ [];
}

abbrev waits : Segment
waits = quiet (memory.OfCoord (coordinator 6 [] [] [] [])) []

abbrev coordinator_21a : Actor
coordinator_21a = after_segment coordinator_welcomed enqueues

abbrev coordinator_21b : Actor
coordinator_21b = after_segment coordinator_21a starts

abbrev coordinator_21 : Actor
coordinator_21 = after_segment coordinator_21b waits

flush_is_answered : verdict for_coordinator None 0 (site 6 []) (flush 15) ≡ Answers
unfolding verdict
flush_is_answered = ap (λ o. kept_or o Answers) (got [] 6 None refl)

course_is_started : Course (scene_of s20 1) (Given (flush 15) 15 ∷ []) coordinator_welcomed (enqueues ∷ starts ∷ waits ∷ [])
unfolding started_of
course_is_started = (
  coordinator_may (scene_of s20 1) coordinator_welcomed 0 [] [] [] [] (flush 15) 15 enqueues refl refl refl refl Answers flush_is_answered refl,
  (
    ByCoordinator (coordinator 6 [] (flush 15 ∷ []) [] []) refl refl (coordinators.IsStarted refl (record {
      next = record { before = []; frame = flush 15; intent = the_flush; behind = [] };
      is = record { is = refl; intent = refl; free = refl; first = refl };
      does = refl;
    })),
    (ByCoordinator (coordinator 6 [] [] [] []) refl refl (coordinators.IsResting refl (record { none = none_waits _; unowed = refl; does = refl })), refl),
  ),
)

abbrev pub s21 : Stage
s21 = after_all (landed_stage s20 13) 1 coordinator_welcomed (enqueues ∷ starts ∷ waits ∷ [])

pub is_started : TurnRun (world s20) (turn (event.Give 13) (Sent 14 (lock 16 new_attributes) ∷ Sent 15 lock_buffered ∷ [])) (world s21)
is_started = gives s20 13 (flush 15) 15 coordinator_welcomed (enqueues ∷ starts ∷ waits ∷ []) refl refl refl course_is_started

-- ---- the Locks: that of the small-file server has the bytes

abbrev server_19 : Actor
server_19 = after_segment server_13 tells

abbrev locks_directory : Segment
locks_directory = record {
  append = Some (records.OfDir (dir.Lock 1 fence new_attributes));
  memory = memory.OfSite (site 4 []);
  frames = grant 16 0 ∷ [];
  notes = [];
  todo = [];
}

abbrev server_22 : Actor
server_22 = after_segment server_19 locks_directory

course_is_locked : Course (scene_of s21 16) (Given (lock 16 new_attributes) 16 ∷ []) server_19 (locks_directory ∷ [])
unfolding verdict locked_in last_finished
course_is_locked = (directory_may (scene_of s21 16) server_19 4 [] (lock 16 new_attributes) 16 locks_directory refl refl refl refl Answers refl refl, refl)

abbrev pub s22 : Stage
s22 = after_all (landed_stage s21 14) 16 server_19 (locks_directory ∷ [])

pub is_locked : TurnRun (world s21) (turn (event.Give 14) (Sent 16 (grant 16 0) ∷ [])) (world s22)
is_locked = gives s21 14 (lock 16 new_attributes) 16 server_19 (locks_directory ∷ []) refl refl refl course_is_locked

abbrev locks_store : Segment
locks_store = record {
  append = Some (records.OfData (stored.Lock 1 fence kept_bytes));
  memory = memory.OfStore buffering;
  frames = grant 32 1 ∷ [];
  notes = [];
  todo = [];
}

abbrev store_23 : Actor
store_23 = after_segment store_18 locks_store

course_both_are_locked : Course (scene_of s22 32) (Given lock_buffered 16 ∷ []) store_18 (locks_store ∷ [])
unfolding verdict locked_in last_finished
course_both_are_locked = (store_may (scene_of s22 32) store_18 5 ((5, write_packet) ∷ []) the_buffer lock_buffered 16 locks_store refl refl refl refl Answers refl refl, refl)

abbrev pub s23 : Stage
s23 = after_all (landed_stage s22 15) 32 store_18 (locks_store ∷ [])

pub both_are_locked : TurnRun (world s22) (turn (event.Give 15) (Sent 17 (grant 32 1) ∷ [])) (world s23)
both_are_locked = gives s22 15 lock_buffered 16 store_18 (locks_store ∷ []) refl refl refl course_both_are_locked

-- ---- the Grants

abbrev vote : ℕ → Vote
vote server = record { op = 1; server = server }

abbrev counts : Segment
counts = quiet (memory.OfCoord (coordinator 6 [] [] (vote 16 ∷ []) [])) []

abbrev coordinator_24 : Actor
coordinator_24 = after_segment coordinator_21 counts

course_is_counted : Course (scene_of s23 1) (Given (grant 16 0) 17 ∷ []) coordinator_21 (counts ∷ [])
unfolding verdict started_of
course_is_counted = (coordinator_may (scene_of s23 1) coordinator_21 6 [] [] [] [] (grant 16 0) 17 counts refl refl refl refl Answers refl refl, refl)

abbrev pub s24 : Stage
s24 = after_all (landed_stage s23 16) 1 coordinator_21 (counts ∷ [])

pub is_counted : TurnRun (world s23) (turn (event.Give 16) ([])) (world s24)
is_counted = gives s23 16 (grant 16 0) 17 coordinator_21 (counts ∷ []) refl refl refl course_is_counted

abbrev decides : Segment
decides = record {
  append = Some (records.OfLog (log.Decide 1 true));
  memory = memory.OfCoord (coordinator 6 ((6, flush_decided true) ∷ []) [] (vote 32 ∷ vote 16 ∷ []) []);
  frames = flush_decided true ∷ apply 16 ∷ apply 32 ∷ [];
  notes = Flush 2 ∷ [];
  todo = [];
}

abbrev coordinator_25 : Actor
coordinator_25 = after_segment coordinator_24 decides

does_decide : decides ≡ coordinators.by_verdict coordinator_24 (coordinator 6 [] [] (vote 16 ∷ []) []) (grant 32 1) Answers
unfolding started_of
does_decide = ap (λ s. record decides { memory = memory.OfCoord (record (coordinator 6 [] [] (vote 32 ∷ vote 16 ∷ []) []) { site = s }) }) (sym (keeps 6 [] 6 (flush_decided true)))

course_is_decided : Course (scene_of s24 1) (Given (grant 32 1) 18 ∷ []) coordinator_24 (decides ∷ [])
unfolding verdict
course_is_decided = (coordinator_may (scene_of s24 1) coordinator_24 6 [] [] (vote 16 ∷ []) [] (grant 32 1) 18 decides refl refl refl refl Answers refl does_decide, refl)

abbrev pub s25 : Stage
s25 = after_all (landed_stage s24 17) 1 coordinator_24 (decides ∷ [])

pub is_decided : TurnRun (world s24) (turn (event.Give 17) (Sent 18 (flush_decided true) ∷ Sent 19 (apply 16) ∷ Sent 20 (apply 32) ∷ Flush 2 ∷ [])) (world s25)
is_decided = gives s24 17 (grant 32 1) 18 coordinator_24 (decides ∷ []) refl refl refl course_is_decided

-- ---- the proxy remembers the attributes, and replies by them

abbrev flushed_call : Waiting
flushed_call = committing (file_hold ∷ []) nothing_told 20

abbrev own_call : Waiting
own_call = committing (file_hold ∷ []) with_own_told 20

abbrev learns : Segment
learns = still (with_one soft_clean first_boots 15 flushed_call 7) (Goes 15 ∷ [])

abbrev recalls : Segment
recalls = still (with_one soft_clean first_boots 15 own_call 7) (Goes 15 ∷ [])

abbrev replies : Segment
replies = notes (with_none soft_clean first_boots 7) (Replied 15 21 commit_reply ∷ []) (Wakes ∷ [])

abbrev rests : Segment
rests = still (with_none soft_clean first_boots 7) []

abbrev x26 : Scene
x26 = scene_of s25 0

abbrev proxy_26a : Actor
proxy_26a = after_segment proxy_20 learns

abbrev proxy_26b : Actor
proxy_26b = after_segment proxy_26a recalls

abbrev proxy_26c : Actor
proxy_26c = after_segment proxy_26b replies

-- the file's unstable writes are stable
abbrev without_dirt : Option Dirty → FinMap nat_cmp Dirty → Segment
without_dirt o dirty = goes_on (record (with_one soft_dirty first_boots 15 flushing 7) { soft = flushed_by o (record soft_dirty { dirty = dirty }) }) 15 flushed_call

does_learn : learns ≡ by_answer x26 (with_one soft_dirty first_boots 15 flushing 7) 15 flushing 20 1 (body.Intent the_flush) (body.Decided true)
does_learn =
    goes_on_one soft_clean first_boots 15 7 flushing flushed_call
    ∙ sym (
    ap (λ o. without_dirt o (remove (of ((2, the_dirt) ∷ [])) 2)) (got ((2, the_dirt) ∷ []) 2 (Some the_dirt) refl)
    ∙ ap (without_dirt (Some the_dirt)) (emptied 2 the_dirt))

does_recall : recalls ≡ does_want x26 (with_one soft_clean first_boots 15 flushed_call 7) 15 flushed_call (wants setup (with_one soft_clean first_boots 15 flushed_call 7) epoch flushed_call)
does_recall =
    let p = with_one soft_clean first_boots 15 flushed_call 7 in
    sym (
    ap (does_want x26 p 15 flushed_call) (wants_recall 15 20)
    ∙ (ap (λ o. still (with_call 15 (record flushed_call { told = with_own (dirty_attributes o (Some (attributes written_node))) nothing_told }) p) (Goes 15 ∷ [])) (got [] 2 None refl)
    ∙ ap (λ m. still (record p { pending = m }) (Goes 15 ∷ [])) (replaced 15 flushed_call own_call)))

does_reply : replies ≡ does_want x26 (with_one soft_clean first_boots 15 own_call 7) 15 own_call (wants setup (with_one soft_clean first_boots 15 own_call 7) epoch own_call)
does_reply =
    ends_one soft_clean soft_clean first_boots 15 7 own_call (Replied 15 21 commit_reply ∷ [])
    ∙ sym (ap (does_want x26 (with_one soft_clean first_boots 15 own_call 7) 15 own_call) (wants_answer 15 20))

abbrev replying : List Segment
replying = learns ∷ recalls ∷ replies ∷ rests ∷ []

course_26 : Course x26 (Given (flush_decided true) 20 ∷ []) proxy_20 replying
course_26 = (
  may_use x26 proxy_20 soft_dirty first_boots 15 7 flushing flush_request (flush_decided true) 20 learns refl refl refl refl refl refl refl refl does_learn,
  (
    may_go x26 proxy_26a soft_clean first_boots 15 7 flushed_call recalls refl refl refl does_recall,
    (may_go x26 proxy_26b soft_clean first_boots 15 7 own_call replies refl refl refl does_reply, (may_rest (later x26 replies) proxy_26c soft_clean first_boots 7 refl refl, refl)),
  ),
)

abbrev pub s26 : Stage
s26 = after_all (landed_stage s25 18) 0 proxy_20 replying

pub is_replied : TurnRun (world s25) (turn (event.Give 18) (Replied 15 21 commit_reply ∷ [])) (world s26)
is_replied = gives s25 18 (flush_decided true) 20 proxy_20 replying refl refl refl course_26

-- ---- both servers do their work, and the small-file server buffers nothing more

abbrev finishes_directory : Segment
finishes_directory = record {
  append = Some (records.OfDir (dir.Finish 1 true));
  memory = memory.OfSite (site 4 []);
  frames = ack 16 0 ∷ [];
  notes = [];
  todo = [];
}

abbrev emptied_store : Store
emptied_store = store_of 5 ((5, write_packet) ∷ []) []

abbrev finishes_store : Segment
finishes_store = record {
  append = Some (records.OfData (stored.Finish 1 true));
  memory = memory.OfStore emptied_store;
  frames = ack 32 1 ∷ [];
  notes = [];
  todo = [];
}

course_is_applied : Course (scene_of s26 16) (Given (apply 16) 20 ∷ []) server_22 (finishes_directory ∷ [])
unfolding verdict locked_in last_finished
course_is_applied = (directory_may (scene_of s26 16) server_22 4 [] (apply 16) 20 finishes_directory refl refl refl refl Answers refl refl, refl)

abbrev pub s27 : Stage
s27 = after_all (landed_stage s26 19) 16 server_22 (finishes_directory ∷ [])

pub is_applied : TurnRun (world s26) (turn (event.Give 19) (Sent 21 (ack 16 0) ∷ [])) (world s27)
is_applied = gives s26 19 (apply 16) 20 server_22 (finishes_directory ∷ []) refl refl refl course_is_applied

course_both_are_applied : Course (scene_of s27 32) (Given (apply 32) 20 ∷ []) store_23 (finishes_store ∷ [])
unfolding verdict locked_in last_finished
course_both_are_applied = (store_may (scene_of s27 32) store_23 5 ((5, write_packet) ∷ []) the_buffer (apply 32) 20 finishes_store refl refl refl refl Answers refl refl, refl)

abbrev pub s28 : Stage
s28 = after_all (landed_stage s27 20) 32 store_23 (finishes_store ∷ [])

pub both_are_applied : TurnRun (world s27) (turn (event.Give 20) (Sent 22 (ack 32 1) ∷ [])) (world s28)
both_are_applied = gives s27 20 (apply 32) 20 store_23 (finishes_store ∷ []) refl refl refl course_both_are_applied

-- ---- the acknowledgements

abbrev acknowledged : List Vote → Coord
acknowledged votes = coordinator 6 ((6, flush_decided true) ∷ []) [] (vote 32 ∷ vote 16 ∷ []) votes

abbrev counts_ack : Segment
counts_ack = quiet (memory.OfCoord (acknowledged (vote 16 ∷ []))) []

abbrev coordinator_29 : Actor
coordinator_29 = after_segment coordinator_25 counts_ack

abbrev coordinator_done : Coord
coordinator_done = acknowledged (vote 32 ∷ vote 16 ∷ [])

abbrev ends_it : Segment
ends_it = record { append = Some (records.OfLog (log.Done 1)); memory = memory.OfCoord coordinator_done; frames = []; notes = []; todo = Proceeds ∷ [] }

abbrev waits_again : Segment
waits_again = quiet (memory.OfCoord coordinator_done) []

course_is_acknowledged : Course (scene_of s28 1) (Given (ack 16 0) 22 ∷ []) coordinator_25 (counts_ack ∷ [])
unfolding verdict started_of
course_is_acknowledged = (coordinator_may (scene_of s28 1) coordinator_25 6 ((6, flush_decided true) ∷ []) [] (vote 32 ∷ vote 16 ∷ []) [] (ack 16 0) 22 counts_ack refl refl refl refl Answers refl refl, refl)

abbrev pub s29 : Stage
s29 = after_all (landed_stage s28 21) 1 coordinator_25 (counts_ack ∷ [])

pub is_acknowledged : TurnRun (world s28) (turn (event.Give 21) ([])) (world s29)
is_acknowledged = gives s28 21 (ack 16 0) 22 coordinator_25 (counts_ack ∷ []) refl refl refl course_is_acknowledged

course_is_finished : Course (scene_of s29 1) (Given (ack 32 1) 23 ∷ []) coordinator_29 (ends_it ∷ waits_again ∷ [])
unfolding verdict started_of
course_is_finished = (
  coordinator_may (scene_of s29 1) coordinator_29 6 ((6, flush_decided true) ∷ []) [] (vote 32 ∷ vote 16 ∷ []) (vote 16 ∷ []) (ack 32 1) 23 ends_it refl refl refl refl Answers refl refl,
  (ByCoordinator coordinator_done refl refl (coordinators.IsResting refl (record { none = none_waits _; unowed = refl; does = refl })), refl),
)

abbrev pub s30 : Stage
s30 = after_all (landed_stage s29 22) 1 coordinator_29 (ends_it ∷ waits_again ∷ [])

pub is_finished : TurnRun (world s29) (turn (event.Give 22) ([])) (world s30)
is_finished = gives s29 22 (ack 32 1) 23 coordinator_29 (ends_it ∷ waits_again ∷ []) refl refl refl course_is_finished

abbrev pub flushed_run : Run setup flushed (world s30)
flushed_run = (world s29, (world s28, (world s27, (world s26, (world s25, (world s24, (world s23, (world s22, (world s21, (world s20, (world s19, buffered_run, refl, is_asked), refl, is_started), refl, is_locked), refl, both_are_locked), refl, is_counted), refl, is_decided), refl, is_replied), refl, is_applied), refl, both_are_applied), refl, is_acknowledged), refl, is_finished)

pub a_write_is_flushed : AWriteIsFlushed
a_write_is_flushed = record {
  world = world s30;
  run = flushed_run;
  empty = empty_disks;
  proxy = (memory.OfProxy (with_none soft_clean first_boots 7), got s30.actors 0 _ refl);
  coordinator = (memory.OfCoord coordinator_done, got s30.actors 1 _ refl);
  directory = (memory.OfSite (site 4 []), got s30.actors 16 _ refl);
  small = (memory.OfStore emptied_store, got s30.actors 32 _ refl);
  node = (memory.OfStore no_store, got s30.actors 48 _ refl);
}
