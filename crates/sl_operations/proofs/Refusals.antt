-- A COMMIT after the small-file server stopped: its Lock is refused, the operation is released, and the proxy begins anew under its
-- next fence.
use Rattle.std.proofs.Common.{◌≡◌, ℕ, Bool, true, false, nat_le, List, [], ◌∷◌, Some, None, refl, sym, ap, ◌∙◌, lit<, unwrap_or}
use Rattle.std.specs.Ordering.{nat_cmp}
use Rattle.std.specs.FinMap.{FinMap, retain_keys}
use Rattle.sl_defs.specs.declared.event.Event.TheVariants as event
use Rattle.sl_records.specs.declared.coordinator.LogEntry.TheVariants as log
use Rattle.sl_records.specs.declared.directory.DirRecord.TheVariants as dir
use Rattle.sl_records.specs.declared.data_server.DataRecord.TheVariants as stored
use Rattle.sl_frames.specs.declared.frame.Frame.{Frame}
use Rattle.sl_frames.specs.declared.body.Body.TheVariants as body
use Rattle.sl_history.specs.Turns.{Sent, Verf}
use Rattle.sl_history.specs.Placing.{carrier}
use Rattle.sl_machine.specs.Records.{Record, cells_of, locked_in, last_finished, started_of, found_object}
use Rattle.sl_machine.specs.Records as records
use Rattle.sl_machine.specs.Memory.{Request, Waiting, Site, Proxy, Coord, Vote, Store, Dirty, Actor, nothing_told, dirty_attributes, flushed_by, touched}
use Rattle.sl_machine.specs.Memory as memory
use Rattle.sl_machine.specs.World.{Scene, Given, Arrives, Goes, Proceeds, Segment, quiet, sends, stopped_actor, after_segment}
use Rattle.sl_machine.specs.Verdicts.{verdict, Answers, for_coordinator, kept_or}
use Rattle.sl_machine.specs.Stores as store
use Rattle.sl_machine.specs.Coordinators as coordinators
use Rattle.sl_machine.specs.Proxies.{still, notes, does_want, asks, with_request, fresh}
use Rattle.sl_machine.specs.Proxies as proxy
use Rattle.sl_machine.specs.Parts.{flush_parts}
use Rattle.sl_machine.specs.Wants.{wants}
use Rattle.sl_machine.specs.Openings.{WithoutLimbo}
use Rattle.sl_machine.specs.Runs.{Run, TurnRun, ByOpenedStore, opened_actor, ByStore, ByCoordinator, ByProxy}
use Rattle.sl_witness.specs.Histories.{setup, epoch, fence, turn}
use Rattle.sl_witness.proofs.Openings.{no_store, empty_disks}
use Rattle.sl_operations.specs.Histories.{new_attributes, commit_call, keep, the_flush, flush, part, flush_decided, lock_buffered, lock, grant, ack, refuse, release, next_fence, next_hello, next_welcome, welcomed_again}
use Rattle.sl_operations.specs.Runs.{flush_begun, AFlushIsRefused}
use Rattle.sl_operations.proofs.Maps.{of, got, got_one, kept_from}
use Rattle.sl_operations.proofs.Stages.{Stage, world, Course, scene_of, after_all, begun_stage, landed_stage, gives, calls}
use Rattle.sl_operations.proofs.Beginning.{coordinator_welcomed}
use Rattle.sl_operations.proofs.Singly.{with_one, with_none, takes_one, locks_one, asks_one, may_go}
use Rattle.sl_operations.proofs.Serving.{site, keeps, directory_may, store_of, store_may, coordinator, coordinator_may, none_waits}
use Rattle.sl_operations.proofs.Creating.{file_hold}
use Rattle.sl_operations.proofs.Intends.{tells}
use Rattle.sl_operations.proofs.Creates.{server_13}
use Rattle.sl_operations.proofs.Buffers.{the_dirt, soft_dirty, first_boots, store_18, proxy_19, s19, buffered_run}
use Rattle.sl_operations.proofs.Committing.{commit_is_asked, committing, wants_lock, wants_flush}
use Rattle.sl_operations.proofs.Faults.{opened_stage, starts, stopped_stage, stops}

-- ---- the small-file server stops, and is opened again

abbrev boot_record : Record
boot_record = records.OfData (stored.Boot 1)

abbrev down_store : Actor
down_store = stopped_actor store_18

abbrev boots_again : Segment
boots_again = record { append = Some (records.OfData (stored.Boot 2)); memory = memory.OfStore no_store; frames = []; notes = []; todo = [] }

abbrev store_21 : Actor
store_21 = after_segment (opened_actor down_store (boot_record ∷ [])) boots_again

abbrev pub s20 : Stage
s20 = stopped_stage s19 32 store_18

pub is_stopped : TurnRun (world s19) (turn (event.Stop 32 0) []) (world s20)
is_stopped = stops s19 32 0 store_18 refl

abbrev pub s21 : Stage
s21 = after_all (opened_stage s20 32 down_store (boot_record ∷ []) ([])) 32 (opened_actor down_store (boot_record ∷ [])) (boots_again ∷ [])

pub is_opened : TurnRun (world s20) (turn (event.Start 32) ([])) (world s21)
is_opened = starts s20 32 down_store (boot_record ∷ []) 1 (boots_again ∷ []) ([]) refl refl refl (WithoutLimbo refl) refl refl ((ByOpenedStore refl refl refl (record { does = refl }), refl))

-- ---- the call arrives, and the file is flushed first

abbrev bytes : List ℕ
bytes = commit_call 9 0

abbrev new_call : Waiting
new_call = committing [] nothing_told 0

abbrev held_call : Waiting
held_call = committing (file_hold ∷ []) nothing_told 0

abbrev flush_request : Request
flush_request = record { tag = 6; to = 1; boot = 0; «body» = body.Intent the_flush }

abbrev flushing : Waiting
flushing = with_request flush_request held_call

-- a segment after which this call waits and goes on
abbrev going : Waiting → Segment
going w = still (with_one soft_dirty first_boots 17 w 6) (Goes 17 ∷ [])

abbrev sends_flush : Segment
sends_flush = sends (memory.OfProxy (with_one soft_dirty first_boots 17 flushing 7)) (flush 17) []

abbrev x22 : Scene
x22 = scene_of s21 0

abbrev proxy_22a : Actor
proxy_22a = after_segment proxy_19 (going new_call)

abbrev proxy_22b : Actor
proxy_22b = after_segment proxy_22a (going held_call)

abbrev proxy_22 : Actor
proxy_22 = after_segment proxy_22b sends_flush

asks_flush : sends_flush ≡ does_want x22 (with_one soft_dirty first_boots 17 held_call 6) 17 held_call (wants setup (with_one soft_dirty first_boots 17 held_call 6) epoch held_call)
unfolding flush_parts carrier
asks_flush =
    let p = with_one soft_dirty first_boots 17 held_call 6 in
    asks_one soft_dirty first_boots 17 held_call flush_request refl
    ∙ sym (
    ap (does_want x22 p 17 held_call) (wants_flush 17)
    ∙ (ap (λ o. asks p 17 held_call (record flush_request { «body» = proxy.flush_of x22 p 2 o })) (got ((2, the_dirt) ∷ []) 2 (Some the_dirt) refl)
    ∙ ap (λ o. asks p 17 held_call (record flush_request { «body» = body.Intent (record the_flush { parts = part 16 new_attributes ∷ record (part 32 keep) { boot = unwrap_or o 0 } ∷ [] }) })) (got ((32, 1) ∷ []) 32 (Some 1) refl)))

abbrev taking : List Segment
taking = going new_call ∷ going held_call ∷ sends_flush ∷ []

course_22 : Course x22 (Arrives 17 0 bytes ∷ []) proxy_19 taking
course_22 = (
  ByProxy (with_none soft_dirty first_boots 6) refl refl (proxy.IsTaken 17 0 bytes refl (record { does = takes_one soft_dirty first_boots 17 0 6 bytes _ commit_is_asked })),
  (
    may_go x22 proxy_22a soft_dirty first_boots 17 6 new_call _ refl refl refl (locks_one x22 soft_dirty first_boots 17 6 new_call (file_hold ∷ []) (wants_lock 17)),
    (may_go x22 proxy_22b soft_dirty first_boots 17 6 held_call _ refl refl refl asks_flush, refl),
  ),
)

abbrev pub s22 : Stage
s22 = after_all (begun_stage s21) 0 proxy_19 taking

pub is_asked : TurnRun (world s21) (turn (event.Call 0 bytes) (Sent 13 (flush 17) ∷ [])) (world s22)
is_asked = calls s21 0 bytes proxy_19 taking refl refl course_22

-- ---- the coordinator records it, and asks for the Locks

abbrev enqueues : Segment
enqueues = quiet (memory.OfCoord (coordinator 6 [] (flush 17 ∷ []) [] [])) (Proceeds ∷ [])

abbrev starts_it : Segment
starts_it = record {
  append = Some (records.OfLog (log.Intent (flush_begun 17)));
  memory = memory.OfCoord (coordinator 6 [] [] [] []);
  frames = lock 16 new_attributes ∷ lock_buffered ∷ [];
  notes = [];
  todo = Proceeds ∷ [];
}

abbrev waits : Segment
waits = quiet (memory.OfCoord (coordinator 6 [] [] [] [])) []

abbrev coordinator_23a : Actor
coordinator_23a = after_segment coordinator_welcomed enqueues

abbrev coordinator_23b : Actor
coordinator_23b = after_segment coordinator_23a starts_it

abbrev coordinator_23 : Actor
coordinator_23 = after_segment coordinator_23b waits

flush_is_answered : verdict for_coordinator None 0 (site 6 []) (flush 17) ≡ Answers
unfolding verdict
flush_is_answered = ap (λ o. kept_or o Answers) (got [] 6 None refl)

course_is_started : Course (scene_of s22 1) (Given (flush 17) 17 ∷ []) coordinator_welcomed (enqueues ∷ starts_it ∷ waits ∷ [])
unfolding started_of
course_is_started = (
  coordinator_may (scene_of s22 1) coordinator_welcomed 0 [] [] [] [] (flush 17) 17 enqueues refl refl refl refl Answers flush_is_answered refl,
  (
    ByCoordinator (coordinator 6 [] (flush 17 ∷ []) [] []) refl refl (coordinators.IsStarted refl (record {
      next = record { before = []; frame = flush 17; intent = the_flush; behind = [] };
      is = record { is = refl; intent = refl; free = refl; first = refl };
      does = refl;
    })),
    (ByCoordinator (coordinator 6 [] [] [] []) refl refl (coordinators.IsResting refl (record { none = none_waits _; unowed = refl; does = refl })), refl),
  ),
)

abbrev pub s23 : Stage
s23 = after_all (landed_stage s22 13) 1 coordinator_welcomed (enqueues ∷ starts_it ∷ waits ∷ [])

pub is_started : TurnRun (world s22) (turn (event.Give 13) (Sent 14 (lock 16 new_attributes) ∷ Sent 15 lock_buffered ∷ [])) (world s23)
is_started = gives s22 13 (flush 17) 17 coordinator_welcomed (enqueues ∷ starts_it ∷ waits ∷ []) refl refl refl course_is_started

-- ---- the small-file server refuses its Lock

abbrev forgets : Segment
forgets = quiet (memory.OfStore (store_of 0 [] [])) (Given lock_buffered 18 ∷ [])

abbrev refuses : Segment
refuses = sends (memory.OfStore (store_of 0 [] [])) refuse []

abbrev store_24a : Actor
store_24a = after_segment store_21 forgets

abbrev store_24 : Actor
store_24 = after_segment store_24a refuses

course_is_refused : Course (scene_of s23 32) (Given lock_buffered 18 ∷ []) store_21 (forgets ∷ refuses ∷ [])
unfolding verdict locked_in last_finished
course_is_refused = (
  ByStore no_store refl refl (store.IsRenewed lock_buffered 18 refl (record { greater = lit< tt; does = refl })),
  (store_may (scene_of s23 32) store_24a 0 [] [] lock_buffered 18 refuses refl refl refl refl Answers refl refl, refl),
)

abbrev pub s24 : Stage
s24 = after_all (landed_stage s23 15) 32 store_21 (forgets ∷ refuses ∷ [])

pub is_refused : TurnRun (world s23) (turn (event.Give 15) (Sent 16 refuse ∷ [])) (world s24)
is_refused = gives s23 15 lock_buffered 18 store_21 (forgets ∷ refuses ∷ []) refl refl refl course_is_refused

-- ---- the coordinator decides against it

abbrev decides : Segment
decides = record {
  append = Some (records.OfLog (log.Decide 1 false));
  memory = memory.OfCoord (coordinator 6 ((6, flush_decided false) ∷ []) [] [] []);
  frames = flush_decided false ∷ release 16 ∷ release 32 ∷ [];
  notes = [];
  todo = [];
}

abbrev coordinator_25 : Actor
coordinator_25 = after_segment coordinator_23 decides

does_decide : decides ≡ coordinators.by_verdict coordinator_23 (coordinator 6 [] [] [] []) refuse Answers
unfolding started_of
does_decide = ap (λ s. record decides { memory = memory.OfCoord (record (coordinator 6 [] [] [] []) { site = s }) }) (sym (keeps 6 [] 6 (flush_decided false)))

course_is_decided : Course (scene_of s24 1) (Given refuse 19 ∷ []) coordinator_23 (decides ∷ [])
unfolding verdict
course_is_decided = (coordinator_may (scene_of s24 1) coordinator_23 6 [] [] [] [] refuse 19 decides refl refl refl refl Answers refl does_decide, refl)

abbrev pub s25 : Stage
s25 = after_all (landed_stage s24 16) 1 coordinator_23 (decides ∷ [])

pub is_decided : TurnRun (world s24) (turn (event.Give 16) (Sent 17 (flush_decided false) ∷ Sent 18 (release 16) ∷ Sent 19 (release 32) ∷ [])) (world s25)
is_decided = gives s24 16 refuse 19 coordinator_23 (decides ∷ []) refl refl refl course_is_decided

-- ---- the proxy takes its next fence

abbrev begins_anew : Segment
begins_anew = sends (memory.OfProxy (fresh next_fence)) next_hello []

abbrev proxy_26 : Actor
proxy_26 = after_segment proxy_22 begins_anew

course_is_renewed : Course (scene_of s25 0) (Given (flush_decided false) 20 ∷ []) proxy_22 (begins_anew ∷ [])
course_is_renewed = (
  ByProxy (with_one soft_dirty first_boots 17 flushing 7) refl refl (proxy.IsRenewed (flush_decided false) 20 refl (record {
    uses = record { arrival = 17; waiting = flushing; request = flush_request; is = got_one 17 flushing; out = refl; tag = refl; fence = refl; sender = refl; answer = refl };
    broken = refl;
    unspent = refl;
    does = refl;
  })),
  refl,
)

abbrev pub s26 : Stage
s26 = after_all (landed_stage s25 17) 0 proxy_22 (begins_anew ∷ [])

pub is_renewed : TurnRun (world s25) (turn (event.Give 17) (Sent 20 next_hello ∷ [])) (world s26)
is_renewed = gives s25 17 (flush_decided false) 20 proxy_22 (begins_anew ∷ []) refl refl refl course_is_renewed

-- ---- the coordinator hears it, and can't welcome it yet

-- with these acknowledgements
abbrev renewed_coordinator : Bool → List Vote → Coord
renewed_coordinator owes votes = record {
  site = record { fence = next_fence; low = 0; kept = of []; parked = [] };
  queue = [];
  granted = [];
  acknowledged = votes;
  owes = owes;
  heard = true;
}

abbrev records_fence : Segment
records_fence = record {
  append = Some (records.OfLog (log.Fence next_fence));
  memory = memory.OfCoord (renewed_coordinator false []);
  frames = [];
  notes = [];
  todo = Given next_hello 21 ∷ [];
}

abbrev owing : Coord
owing = renewed_coordinator true []

abbrev hears : Segment
hears = quiet (memory.OfCoord owing) (Proceeds ∷ [])

abbrev rests : Segment
rests = quiet (memory.OfCoord owing) []

abbrev coordinator_27a : Actor
coordinator_27a = after_segment coordinator_25 records_fence

abbrev coordinator_27b : Actor
coordinator_27b = after_segment coordinator_27a hears

abbrev coordinator_27 : Actor
coordinator_27 = after_segment coordinator_27b rests

-- with these kept answers
abbrev hearing : FinMap nat_cmp Frame → Coord
hearing kept = record (renewed_coordinator false []) { site = record { fence = next_fence; low = 0; kept = kept; parked = [] } }

does_hear : hears ≡ coordinators.admits coordinator_27a (hearing (retain_keys (of []) (λ tag. nat_le 0 tag))) next_hello
unfolding verdict started_of
does_hear = sym (ap (λ kept. coordinators.admits coordinator_27a (hearing kept) next_hello) (kept_from [] 0))

course_is_heard : Course (scene_of s26 1) (Given next_hello 21 ∷ []) coordinator_25 (records_fence ∷ hears ∷ rests ∷ [])
unfolding started_of
course_is_heard = (
  ByCoordinator (coordinator 6 ((6, flush_decided false) ∷ []) [] [] []) refl refl (coordinators.IsRenewed next_hello 21 refl (record { greater = lit< tt; does = refl })),
  (
    ByCoordinator (renewed_coordinator false []) refl refl (coordinators.IsAdmitted next_hello 21 refl (record { not_greater = refl; does = does_hear })),
    (ByCoordinator owing refl refl (coordinators.IsResting refl (record { none = none_waits _; unowed = refl; does = refl })), refl),
  ),
)

abbrev pub s27 : Stage
s27 = after_all (landed_stage s26 20) 1 coordinator_25 (records_fence ∷ hears ∷ rests ∷ [])

pub is_heard : TurnRun (world s26) (turn (event.Give 20) ([])) (world s27)
is_heard = gives s26 20 next_hello 21 coordinator_25 (records_fence ∷ hears ∷ rests ∷ []) refl refl refl course_is_heard

-- ---- the directory server is locked late, and released

abbrev server_19 : Actor
server_19 = after_segment server_13 tells

abbrev locks_directory : Segment
locks_directory = record {
  append = Some (records.OfDir (dir.Lock 1 fence new_attributes));
  memory = memory.OfSite (site 4 []);
  frames = grant 16 0 ∷ [];
  notes = [];
  todo = [];
}

abbrev server_28 : Actor
server_28 = after_segment server_19 locks_directory

abbrev releases_directory : Segment
releases_directory = record {
  append = Some (records.OfDir (dir.Finish 1 false));
  memory = memory.OfSite (site 4 []);
  frames = ack 16 0 ∷ [];
  notes = [];
  todo = [];
}

abbrev releases_store : Segment
releases_store = record {
  append = Some (records.OfData (stored.Finish 1 false));
  memory = memory.OfStore (store_of 0 [] []);
  frames = ack 32 2 ∷ [];
  notes = [];
  todo = [];
}

course_is_locked : Course (scene_of s27 16) (Given (lock 16 new_attributes) 18 ∷ []) server_19 (locks_directory ∷ [])
unfolding verdict locked_in last_finished
course_is_locked = (directory_may (scene_of s27 16) server_19 4 [] (lock 16 new_attributes) 18 locks_directory refl refl refl refl Answers refl refl, refl)

abbrev pub s28 : Stage
s28 = after_all (landed_stage s27 14) 16 server_19 (locks_directory ∷ [])

pub is_locked : TurnRun (world s27) (turn (event.Give 14) (Sent 21 (grant 16 0) ∷ [])) (world s28)
is_locked = gives s27 14 (lock 16 new_attributes) 18 server_19 (locks_directory ∷ []) refl refl refl course_is_locked

course_is_released : Course (scene_of s28 16) (Given (release 16) 20 ∷ []) server_28 (releases_directory ∷ [])
unfolding verdict locked_in last_finished
course_is_released = (directory_may (scene_of s28 16) server_28 4 [] (release 16) 20 releases_directory refl refl refl refl Answers refl refl, refl)

abbrev pub s29 : Stage
s29 = after_all (landed_stage s28 18) 16 server_28 (releases_directory ∷ [])

pub is_released : TurnRun (world s28) (turn (event.Give 18) (Sent 22 (ack 16 0) ∷ [])) (world s29)
is_released = gives s28 18 (release 16) 20 server_28 (releases_directory ∷ []) refl refl refl course_is_released

course_both_are_released : Course (scene_of s29 32) (Given (release 32) 20 ∷ []) store_24 (releases_store ∷ [])
unfolding verdict locked_in last_finished
course_both_are_released = (store_may (scene_of s29 32) store_24 0 [] [] (release 32) 20 releases_store refl refl refl refl Answers refl refl, refl)

abbrev pub s30 : Stage
s30 = after_all (landed_stage s29 19) 32 store_24 (releases_store ∷ [])

pub both_are_released : TurnRun (world s29) (turn (event.Give 19) (Sent 23 (ack 32 2) ∷ [])) (world s30)
both_are_released = gives s29 19 (release 32) 20 store_24 (releases_store ∷ []) refl refl refl course_both_are_released

-- ---- the operation ends, and the proxy is welcomed

abbrev vote : ℕ → Vote
vote server = record { op = 1; server = server }

abbrev passes : Segment
passes = quiet (memory.OfCoord owing) []

abbrev coordinator_31 : Actor
coordinator_31 = after_segment coordinator_27 passes

abbrev counts : Segment
counts = quiet (memory.OfCoord (renewed_coordinator true (vote 16 ∷ []))) []

abbrev coordinator_32 : Actor
coordinator_32 = after_segment coordinator_31 counts

abbrev ends_it : Segment
ends_it = record {
  append = Some (records.OfLog (log.Done 1));
  memory = memory.OfCoord (renewed_coordinator true (vote 32 ∷ vote 16 ∷ []));
  frames = [];
  notes = [];
  todo = Proceeds ∷ [];
}

abbrev coordinator_welcoming : Coord
coordinator_welcoming = renewed_coordinator false (vote 32 ∷ vote 16 ∷ [])

abbrev welcomes : Segment
welcomes = sends (memory.OfCoord coordinator_welcoming) next_welcome []

course_is_passed : Course (scene_of s30 1) (Given (grant 16 0) 23 ∷ []) coordinator_27 (passes ∷ [])
unfolding verdict started_of
course_is_passed = (ByCoordinator (renewed_coordinator true []) refl refl (coordinators.IsAdmitted (grant 16 0) 23 refl (record { not_greater = refl; does = refl })), refl)

abbrev pub s31 : Stage
s31 = after_all (landed_stage s30 21) 1 coordinator_27 (passes ∷ [])

pub is_passed : TurnRun (world s30) (turn (event.Give 21) ([])) (world s31)
is_passed = gives s30 21 (grant 16 0) 23 coordinator_27 (passes ∷ []) refl refl refl course_is_passed

course_is_acknowledged : Course (scene_of s31 1) (Given (ack 16 0) 24 ∷ []) coordinator_31 (counts ∷ [])
unfolding verdict started_of
course_is_acknowledged = (ByCoordinator (renewed_coordinator true []) refl refl (coordinators.IsAdmitted (ack 16 0) 24 refl (record { not_greater = refl; does = refl })), refl)

abbrev pub s32 : Stage
s32 = after_all (landed_stage s31 22) 1 coordinator_31 (counts ∷ [])

pub is_acknowledged : TurnRun (world s31) (turn (event.Give 22) ([])) (world s32)
is_acknowledged = gives s31 22 (ack 16 0) 24 coordinator_31 (counts ∷ []) refl refl refl course_is_acknowledged

course_is_finished : Course (scene_of s32 1) (Given (ack 32 2) 25 ∷ []) coordinator_32 (ends_it ∷ welcomes ∷ [])
unfolding verdict started_of
course_is_finished = (
  ByCoordinator (renewed_coordinator true (vote 16 ∷ [])) refl refl (coordinators.IsAdmitted (ack 32 2) 25 refl (record { not_greater = refl; does = refl })),
  (
    ByCoordinator (renewed_coordinator true (vote 32 ∷ vote 16 ∷ [])) refl refl (coordinators.IsWelcomed refl (record { owed = refl; idle = refl; none = none_waits []; does = refl })),
    refl,
  ),
)

abbrev pub s33 : Stage
s33 = after_all (landed_stage s32 23) 1 coordinator_32 (ends_it ∷ welcomes ∷ [])

pub is_finished : TurnRun (world s32) (turn (event.Give 23) (Sent 24 next_welcome ∷ [])) (world s33)
is_finished = gives s32 23 (ack 32 2) 25 coordinator_32 (ends_it ∷ welcomes ∷ []) refl refl refl course_is_finished

abbrev anew : Proxy
anew = record (fresh next_fence) { welcomed = true }

abbrev is_welcome : Segment
is_welcome = notes anew (Verf next_fence ∷ []) []

course_is_welcomed : Course (scene_of s33 0) (Given next_welcome 28 ∷ []) proxy_26 (is_welcome ∷ [])
course_is_welcomed = (ByProxy (fresh next_fence) refl refl (proxy.IsGreeted next_welcome 28 refl (record { fence = refl; kind = refl; sender = refl; first = refl; does = refl })), refl)

abbrev pub s34 : Stage
s34 = after_all (landed_stage s33 24) 0 proxy_26 (is_welcome ∷ [])

pub is_welcomed : TurnRun (world s33) (turn (event.Give 24) (Verf next_fence ∷ [])) (world s34)
is_welcomed = gives s33 24 next_welcome 28 proxy_26 (is_welcome ∷ []) refl refl refl course_is_welcomed

abbrev pub refused_run : Run setup welcomed_again (world s34)
refused_run = (world s33, (world s32, (world s31, (world s30, (world s29, (world s28, (world s27, (world s26, (world s25, (world s24, (world s23, (world s22, (world s21, (world s20, (world s19, buffered_run, refl, is_stopped), refl, is_opened), refl, is_asked), refl, is_started), refl, is_refused), refl, is_decided), refl, is_renewed), refl, is_heard), refl, is_locked), refl, is_released), refl, both_are_released), refl, is_passed), refl, is_acknowledged), refl, is_finished), refl, is_welcomed)

pub a_flush_is_refused : AFlushIsRefused
a_flush_is_refused = record {
  world = world s34;
  run = refused_run;
  empty = empty_disks;
  proxy = (memory.OfProxy anew, got s34.actors 0 _ refl);
  coordinator = (memory.OfCoord coordinator_welcoming, got s34.actors 1 _ refl);
  directory = (memory.OfSite (site 4 []), got s34.actors 16 _ refl);
  small = (memory.OfStore (store_of 0 [] []), got s34.actors 32 _ refl);
  node = (memory.OfStore no_store, got s34.actors 48 _ refl);
}
