-- The append of the decision is cut at the coordinator.
use Rattle.std.proofs.Common.{◌≡◌, ℕ, nat_lt, true, false, ◌<◌, ◌==◌, Bool, cond, arith, List, [], ◌∷◌, Some, None, refl, sym, ap, ◌∙◌, unwrap_or}
use Rattle.std.specs.Ordering.{nat_cmp, eq_by_cmp}
use Rattle.std.specs.FinMap.{entries}
use Rattle.sl_defs.specs.declared.event.Event.TheVariants as event
use Rattle.sl_records.specs.declared.coordinator.LogEntry.TheVariants as log
use Rattle.sl_frames.specs.declared.frame.Frame.{Frame}
use Rattle.sl_frames.specs.declared.body.Body.TheVariants as body
use Rattle.sl_history.specs.Turns.{Sent, Did, Replied, Down}
use Rattle.sl_history.specs.Arrivals.{answer_to}
use Rattle.sl_machine.specs.Records.{Record, cells_of, locked_in, last_finished, started_of, found_object}
use Rattle.sl_machine.specs.Records as records
use Rattle.sl_machine.specs.Memory.{Request, Waiting, Vote, Coord, Actor, low_among, nothing_told, no_soft}
use Rattle.sl_machine.specs.Memory as memory
use Rattle.sl_machine.specs.World.{Scene, Given, Wakes, Ticks, Proceeds, Segment, quiet, sends, scene, after_segment, cut_actor}
use Rattle.sl_machine.specs.Verdicts.{Verdict, verdict, Answers, IsKept, for_coordinator, kept_or}
use Rattle.sl_machine.specs.Coordinators as coordinators
use Rattle.sl_machine.specs.Proxies.{notes, by_answer, ends, done_event, operated, frames_again, request_frame}
use Rattle.sl_machine.specs.Proxies as proxy
use Rattle.sl_machine.specs.Openings.{WithoutLimbo, WithLimbo, RestoredCoord, settled}
use Rattle.sl_machine.specs.Runs.{Run, TurnRun, May, ByOpenedCoordinator, ByCoordinator, ByProxy, opened_actor}
use Rattle.sl_witness.specs.Histories.{setup, epoch, fence, turn}
use Rattle.sl_witness.proofs.Openings.{either_way, no_store, empty_disks}
use Rattle.sl_operations.specs.Histories.{write_reply, intent, the_intent, new_attributes, new_bytes, lock, grant, apply, decided, kept_write, granted, decision_finished, anew_finished, ack}
use Rattle.sl_operations.specs.Runs.{first_started, ACutDecisionIsDone, ALostDecisionIsDone}
use Rattle.sl_operations.proofs.Maps.{of, got, got_one, removed, entries_one}
use Rattle.sl_operations.proofs.Stages.{Stage, world, Course, later, scene_of, after_all, landed_stage, gives}
use Rattle.sl_operations.proofs.Singly.{may_use, with_one, with_none, ends_one, may_rest}
use Rattle.sl_operations.proofs.Serving.{site, seen_site, is_seen, keeps, directory_may, store_of, store_may, coordinator, coordinator_may, none_waits}
use Rattle.sl_operations.proofs.Writing.{is_operated}
use Rattle.sl_operations.proofs.Intends.{s18}
use Rattle.sl_operations.proofs.Intends.{intending, second_request, proxy_17, started_run}
use Rattle.sl_operations.proofs.Decides.{vote, store_20, coordinator_21, decides, write_rests, s19, s20, s21, is_locked, both_are_locked, is_counted, course_22}
use Rattle.sl_operations.proofs.Finishes.{server_19, finishes_directory, finishes_store}
use Rattle.sl_operations.proofs.Faults.{cut_stage, cuts, opened_stage, starts, ticked_stage, ticks}

-- ---- the append is cut

abbrev the_decision : Record
the_decision = records.OfLog (log.Decide 1 true)

abbrev cut_coordinator : Actor
cut_coordinator = cut_actor coordinator_21 the_decision

abbrev pub t22 : Stage
t22 = cut_stage s21 15 1 coordinator_21 the_decision

pub is_cut : TurnRun (world s21) (turn (event.Give 15) (Down 1 ∷ [])) (world t22)
is_cut = cuts s21 15 (grant 32 1) 15 coordinator_21 decides the_decision refl refl refl course_22.0 refl

abbrev cut_run : Run setup (turn (event.Give 15) (Down 1 ∷ []) ∷ turn (event.Give 14) [] ∷ granted) (world t22)
cut_run = (world s21, (world s20, (world s19, (world s18, started_run, refl, is_locked), refl, both_are_locked), refl, is_counted), refl, is_cut)

-- ---- the coordinator as it is opened

abbrev undecided_records : List Record
undecided_records = records.OfLog (log.Intent first_started) ∷ records.OfLog (log.Fence fence) ∷ []

abbrev decided_records : List Record
decided_records = the_decision ∷ undecided_records

-- with these kept answers, which has heard nobody
abbrev opened : List (ℕ × Frame) → Bool → Coord
opened kept heard = record { site = site 5 kept; queue = []; granted = []; acknowledged = []; owes = false; heard = heard }

abbrev kept : List (ℕ × Frame)
kept = (5, decided) ∷ []

two_tests : (tag : ℕ) (a b : Bool) → eq_by_cmp nat_cmp tag 5 ≡ a → (5 == tag) ≡ b → cond a (Some decided) None ≡ cond b (Some decided) None
two_tests tag true true p q = refl
two_tests tag false false p q = refl
two_tests tag true false p q = absurd (grind arith)
two_tests tag false true p q = absurd (grind arith)

below_apart : (tag : ℕ) → tag < 5 → eq_by_cmp nat_cmp tag 5 ≡ false
below_apart tag h = grind arith

restores_decided : RestoredCoord decided_records (opened kept false)
unfolding started_of
restores_decided = record {
  fence = refl;
  low = refl;
  kept = λ tag h. got kept tag _ refl ∙ two_tests tag (eq_by_cmp nat_cmp tag 5) (5 == tag) refl refl;
  gone = λ tag h. got kept tag _ refl ∙ ap (λ b. cond b (Some decided) None) (below_apart tag h);
  parked = refl;
  queue = refl;
  granted = refl;
  acknowledged = refl;
  owes = refl;
  heard = refl;
}

restores_undecided : RestoredCoord undecided_records (opened [] false)
unfolding started_of
restores_undecided = record {
  fence = refl;
  low = refl;
  kept = λ tag h. got [] tag None refl ∙ sym (either_way (5 == tag) None);
  gone = λ tag h. got [] tag None refl;
  parked = refl;
  queue = refl;
  granted = refl;
  acknowledged = refl;
  owes = refl;
  heard = refl;
}

-- ---- the intent is sent again

abbrev pub intent_again : Segment
intent_again = sends (memory.OfProxy (with_one no_soft (of []) 10 intending 6)) intent []

pub is_sent_again : intent_again ≡ record intent_again { frames = frames_again (with_one no_soft (of []) 10 intending 6) (entries (of ((10, intending) ∷ []))) }
is_sent_again = sym (
    ap (λ es. record intent_again { frames = frames_again (with_one no_soft (of []) 10 intending 6) es }) (entries_one 10 intending)
    ∙ ap (λ es. sends (memory.OfProxy (with_one no_soft (of []) 10 intending 6)) (record intent { low = low_among es 6 }) []) (entries_one 10 intending))

abbrev pub proxy_again : Actor
proxy_again = after_segment proxy_17 intent_again

-- ---- the decision is there: it is noted, and the intent has the kept answer

abbrev reads_decided : Segment
reads_decided = quiet (memory.OfCoord (opened kept false)) []

note_is : settled 2 decided_records ≡ Did 10 epoch kept_write ∷ []
unfolding started_of
note_is = refl

abbrev pub t23 : Stage
t23 = after_all (opened_stage t22 1 cut_coordinator decided_records (Did 10 epoch kept_write ∷ [])) 1 (opened_actor cut_coordinator decided_records) (reads_decided ∷ [])

pub is_found : TurnRun (world t22) (turn (event.Start 1) (Did 10 epoch kept_write ∷ [])) (world t23)
is_found = starts t22 1 cut_coordinator decided_records 2 (reads_decided ∷ []) (Did 10 epoch kept_write ∷ []) refl refl refl (WithLimbo the_decision refl refl) refl note_is ((ByOpenedCoordinator refl refl refl (record { coord = opened kept false; restored = restores_decided; does = refl }), refl))

abbrev found_coordinator : Actor
found_coordinator = after_segment (opened_actor cut_coordinator decided_records) reads_decided

abbrev applies : Segment
applies = record { append = None; memory = memory.OfCoord (opened kept false); frames = apply 16 ∷ apply 32 ∷ []; notes = []; todo = [] }

abbrev coordinator_24 : Actor
coordinator_24 = after_segment found_coordinator applies

course_is_ticked : Course (scene_of t23 0) (Ticks ∷ []) proxy_17 (intent_again ∷ [])
course_is_ticked = (ByProxy (with_one no_soft (of []) 10 intending 6) refl refl (proxy.IsSentAgain refl (record { does = is_sent_again })), refl)

log_is_ticked : Course (scene (world (ticked_stage t23 proxy_17 (intent_again ∷ []))) 1) (Ticks ∷ []) found_coordinator (applies ∷ [])
unfolding started_of
log_is_ticked = (ByCoordinator (opened kept false) refl refl (coordinators.IsSentAgain refl (record { does = refl })), refl)

abbrev pub t24 : Stage
t24 = after_all (ticked_stage t23 proxy_17 (intent_again ∷ [])) 1 found_coordinator (applies ∷ [])

pub is_ticked : TurnRun (world t23) (turn event.Tick (Sent 16 intent ∷ Sent 17 (apply 16) ∷ Sent 18 (apply 32) ∷ [])) (world t24)
is_ticked = ticks t23 proxy_17 (intent_again ∷ []) found_coordinator (applies ∷ []) refl refl course_is_ticked refl refl log_is_ticked

abbrev answers_again : Segment
answers_again = sends (memory.OfCoord (coordinator 5 kept [] [] [])) decided []

abbrev coordinator_25 : Actor
coordinator_25 = after_segment coordinator_24 answers_again

intent_is_kept : verdict for_coordinator None 0 (site 5 kept) intent ≡ IsKept decided
unfolding verdict
intent_is_kept = ap (λ o. kept_or o Answers) (got kept 5 (Some decided) refl)

-- the coordinator that has heard nobody is given a frame of its fence
hears_first :
    (x : Scene) (a : Actor) (before : List (ℕ × Frame)) (f : Frame) (e : ℕ) (g : Segment) → x.actor ≡ 1 → a.memory ≡ Some (memory.OfCoord (opened before false))
    → f.fence ≡ fence → nat_lt fence f.fence ≡ false → (v : Verdict) → verdict for_coordinator None 0 (seen_site 5 before f.low) f ≡ v
    → g ≡ coordinators.by_verdict a (record (opened before false) { site = seen_site 5 before f.low }) f v → May x a (Given f e) g
hears_first x a before f e g at is fence_is not_greater v verdict_is does =
    let m = opened before false in
    ByCoordinator m at is (coordinators.IsAdmitted f e refl (record {
      not_greater = not_greater;
      does =
          does
          ∙ (ap (coordinators.by_verdict a (record m { site = seen_site 5 before f.low }) f) (sym verdict_is)
          ∙ ap (λ s. coordinators.admits a (record m { site = s }) f) (sym (is_seen 5 before f fence_is)));
    }))

course_is_answered : Course (scene_of t24 1) (Given intent 19 ∷ []) coordinator_24 (answers_again ∷ [])
course_is_answered = (hears_first (scene_of t24 1) coordinator_24 kept intent 19 answers_again refl refl refl refl (IsKept decided) intent_is_kept refl, refl)

abbrev pub t25 : Stage
t25 = after_all (landed_stage t24 16) 1 coordinator_24 (answers_again ∷ [])

pub is_answered : TurnRun (world t24) (turn (event.Give 16) (Sent 19 decided ∷ [])) (world t25)
is_answered = gives t24 16 intent 19 coordinator_24 (answers_again ∷ []) refl refl refl course_is_answered

-- ---- the proxy replies: the effect was noted in this event

abbrev pub replies : ℕ → Segment
replies e = notes (with_none no_soft (of []) 6) (Replied 10 e write_reply ∷ []) (Wakes ∷ [])

-- the proxy in an event, when the call of event 10 took effect in that one
abbrev pub moment_with : ℕ → ℕ → Scene
moment_with e now = record { setup = setup; actor = 0; event = now; moment = epoch; done_in = of ((10, e) ∷ []) }

pub does_reply : (e now sent : ℕ) → replies e ≡ by_answer (moment_with e now) (with_one no_soft (of []) 10 intending 6) 10 intending sent 1 (body.Intent the_intent) (body.Decided true)
does_reply e now sent =
    let x = moment_with e now in
    let p = with_one no_soft (of []) 10 intending 6 in
    ends_one no_soft no_soft (of []) 10 6 intending (Replied 10 e write_reply ∷ [])
    ∙ sym (
    ap (λ m. ends p 10 (record no_soft { dirty = m }) (Replied 10 (done_event x 10) (answer_to intending.asked (operated p intending epoch kept_write).answer) ∷ [])) (removed [] 2)
    ∙ (ap (λ r. ends p 10 no_soft (Replied 10 (done_event x 10) (answer_to intending.asked r) ∷ [])) is_operated
    ∙ ap (λ o. ends p 10 no_soft (Replied 10 (unwrap_or o now) write_reply ∷ [])) (got_one 10 e)))

course_is_replied : Course (scene_of t25 0) (Given decided 20 ∷ []) proxy_again (replies 18 ∷ write_rests ∷ [])
course_is_replied = (
  may_use (scene_of t25 0) proxy_again no_soft (of []) 10 6 intending second_request decided 20 _ refl refl refl refl refl refl refl refl (does_reply 18 21 20),
  (may_rest (later (scene_of t25 0) (replies 18)) (after_segment proxy_again (replies 18)) no_soft (of []) 6 refl refl, refl),
)

abbrev pub t26 : Stage
t26 = after_all (landed_stage t25 19) 0 proxy_again (replies 18 ∷ write_rests ∷ [])

pub is_replied : TurnRun (world t25) (turn (event.Give 19) (Replied 10 18 write_reply ∷ [])) (world t26)
is_replied = gives t25 19 decided 20 proxy_again (replies 18 ∷ write_rests ∷ []) refl refl refl course_is_replied

-- ---- both servers do their work, and the operation ends

course_is_applied : Course (scene_of t26 16) (Given (apply 16) 19 ∷ []) server_19 (finishes_directory ∷ [])
unfolding verdict locked_in last_finished
course_is_applied = (directory_may (scene_of t26 16) server_19 4 [] (apply 16) 19 finishes_directory refl refl refl refl Answers refl refl, refl)

abbrev pub t27 : Stage
t27 = after_all (landed_stage t26 17) 16 server_19 (finishes_directory ∷ [])

pub is_applied : TurnRun (world t26) (turn (event.Give 17) (Sent 20 (ack 16 0) ∷ [])) (world t27)
is_applied = gives t26 17 (apply 16) 19 server_19 (finishes_directory ∷ []) refl refl refl course_is_applied

course_both_are_applied : Course (scene_of t27 32) (Given (apply 32) 19 ∷ []) store_20 (finishes_store ∷ [])
unfolding verdict locked_in last_finished
course_both_are_applied = (store_may (scene_of t27 32) store_20 0 [] [] (apply 32) 19 finishes_store refl refl refl refl Answers refl refl, refl)

abbrev pub t28 : Stage
t28 = after_all (landed_stage t27 18) 32 store_20 (finishes_store ∷ [])

pub both_are_applied : TurnRun (world t27) (turn (event.Give 18) (Sent 21 (ack 32 1) ∷ [])) (world t28)
both_are_applied = gives t27 18 (apply 32) 19 store_20 (finishes_store ∷ []) refl refl refl course_both_are_applied

abbrev counts_ack : Segment
counts_ack = quiet (memory.OfCoord (coordinator 5 kept [] [] (vote 16 ∷ []))) []

abbrev coordinator_done : Coord
coordinator_done = coordinator 5 kept [] [] (vote 32 ∷ vote 16 ∷ [])

abbrev ends_it : Segment
ends_it = record { append = Some (records.OfLog (log.Done 1)); memory = memory.OfCoord coordinator_done; frames = []; notes = []; todo = Proceeds ∷ [] }

abbrev waits : Segment
waits = quiet (memory.OfCoord coordinator_done) []

course_is_acknowledged : Course (scene_of t28 1) (Given (ack 16 0) 22 ∷ []) coordinator_25 (counts_ack ∷ [])
unfolding verdict started_of
course_is_acknowledged = (coordinator_may (scene_of t28 1) coordinator_25 5 kept [] [] [] (ack 16 0) 22 counts_ack refl refl refl refl Answers refl refl, refl)

abbrev pub t29 : Stage
t29 = after_all (landed_stage t28 20) 1 coordinator_25 (counts_ack ∷ [])

pub is_acknowledged : TurnRun (world t28) (turn (event.Give 20) ([])) (world t29)
is_acknowledged = gives t28 20 (ack 16 0) 22 coordinator_25 (counts_ack ∷ []) refl refl refl course_is_acknowledged

course_is_finished : Course (scene_of t29 1) (Given (ack 32 1) 23 ∷ []) (after_segment coordinator_25 counts_ack) (ends_it ∷ waits ∷ [])
unfolding verdict started_of
course_is_finished = (
  coordinator_may (scene_of t29 1) (after_segment coordinator_25 counts_ack) 5 kept [] [] (vote 16 ∷ []) (ack 32 1) 23 ends_it refl refl refl refl Answers refl refl,
  (ByCoordinator coordinator_done refl refl (coordinators.IsResting refl (record { none = none_waits _; unowed = refl; does = refl })), refl),
)

abbrev pub t30 : Stage
t30 = after_all (landed_stage t29 21) 1 (after_segment coordinator_25 counts_ack) (ends_it ∷ waits ∷ [])

pub is_finished : TurnRun (world t29) (turn (event.Give 21) ([])) (world t30)
is_finished = gives t29 21 (ack 32 1) 23 (after_segment coordinator_25 counts_ack) (ends_it ∷ waits ∷ []) refl refl refl course_is_finished

abbrev pub found_run : Run setup decision_finished (world t30)
found_run = (world t29, (world t28, (world t27, (world t26, (world t25, (world t24, (world t23, (world t22, cut_run, refl, is_found), refl, is_ticked), refl, is_answered), refl, is_replied), refl, is_applied), refl, both_are_applied), refl, is_acknowledged), refl, is_finished)

pub a_cut_decision_is_done : ACutDecisionIsDone
a_cut_decision_is_done = record {
  world = world t30;
  run = found_run;
  empty = empty_disks;
  proxy = (memory.OfProxy (with_none no_soft (of []) 6), got t30.actors 0 _ refl);
  coordinator = (memory.OfCoord coordinator_done, got t30.actors 1 _ refl);
  directory = (memory.OfSite (site 4 []), got t30.actors 16 _ refl);
  small = (memory.OfStore (store_of 0 [] []), got t30.actors 32 _ refl);
  node = (memory.OfStore no_store, got t30.actors 48 _ refl);
}

-- ---- the decision isn't there: the coordinator waits for the proxy, and then asks for the Locks again

abbrev reads_undecided : Segment
reads_undecided = quiet (memory.OfCoord (opened [] false)) []

abbrev lost_coordinator : Actor
lost_coordinator = after_segment (opened_actor cut_coordinator undecided_records) reads_undecided

abbrev pub u23 : Stage
u23 = after_all (opened_stage t22 1 cut_coordinator undecided_records ([])) 1 (opened_actor cut_coordinator undecided_records) (reads_undecided ∷ [])

pub is_lost : TurnRun (world t22) (turn (event.Start 1) ([])) (world u23)
is_lost = starts t22 1 cut_coordinator undecided_records 2 (reads_undecided ∷ []) ([]) refl refl refl (WithoutLimbo refl) refl refl ((ByOpenedCoordinator refl refl refl (record { coord = opened [] false; restored = restores_undecided; does = refl }), refl))

abbrev stays : Segment
stays = record { append = None; memory = memory.OfCoord (opened [] false); frames = []; notes = []; todo = [] }

abbrev coordinator_24u : Actor
coordinator_24u = after_segment lost_coordinator stays

course_lost_ticked : Course (scene_of u23 0) (Ticks ∷ []) proxy_17 (intent_again ∷ [])
course_lost_ticked = (ByProxy (with_one no_soft (of []) 10 intending 6) refl refl (proxy.IsSentAgain refl (record { does = is_sent_again })), refl)

log_lost_ticked : Course (scene (world (ticked_stage u23 proxy_17 (intent_again ∷ []))) 1) (Ticks ∷ []) lost_coordinator (stays ∷ [])
unfolding started_of
log_lost_ticked = (ByCoordinator (opened [] false) refl refl (coordinators.IsSentAgain refl (record { does = refl })), refl)

abbrev pub u24 : Stage
u24 = after_all (ticked_stage u23 proxy_17 (intent_again ∷ [])) 1 lost_coordinator (stays ∷ [])

pub lost_ticked : TurnRun (world u23) (turn event.Tick (Sent 16 intent ∷ [])) (world u24)
lost_ticked = ticks u23 proxy_17 (intent_again ∷ []) lost_coordinator (stays ∷ []) refl refl course_lost_ticked refl refl log_lost_ticked

abbrev hears : Segment
hears = quiet (memory.OfCoord (coordinator 5 [] [] [] [])) []

abbrev proxy_26u : Actor
proxy_26u = after_segment proxy_again intent_again

abbrev coordinator_25u : Actor
coordinator_25u = after_segment coordinator_24u hears

pub intent_is_new : verdict for_coordinator None 0 (site 5 []) intent ≡ Answers
unfolding verdict
intent_is_new = ap (λ o. kept_or o Answers) (got [] 5 None refl)

course_is_heard : Course (scene_of u24 1) (Given intent 19 ∷ []) coordinator_24u (hears ∷ [])
unfolding started_of
course_is_heard = (hears_first (scene_of u24 1) coordinator_24u [] intent 19 hears refl refl refl refl Answers intent_is_new refl, refl)

abbrev pub u25 : Stage
u25 = after_all (landed_stage u24 16) 1 coordinator_24u (hears ∷ [])

pub is_heard : TurnRun (world u24) (turn (event.Give 16) ([])) (world u25)
is_heard = gives u24 16 intent 19 coordinator_24u (hears ∷ []) refl refl refl course_is_heard

abbrev locks_again : Segment
locks_again = record { append = None; memory = memory.OfCoord (coordinator 5 [] [] [] []); frames = lock 16 new_attributes ∷ lock 32 new_bytes ∷ []; notes = []; todo = [] }

abbrev coordinator_26u : Actor
coordinator_26u = after_segment coordinator_25u locks_again

course_ticked_again : Course (scene_of u25 0) (Ticks ∷ []) proxy_again (intent_again ∷ [])
course_ticked_again = (ByProxy (with_one no_soft (of []) 10 intending 6) refl refl (proxy.IsSentAgain refl (record { does = is_sent_again })), refl)

log_ticked_again : Course (scene (world (ticked_stage u25 proxy_again (intent_again ∷ []))) 1) (Ticks ∷ []) coordinator_25u (locks_again ∷ [])
unfolding started_of
log_ticked_again = (ByCoordinator (coordinator 5 [] [] [] []) refl refl (coordinators.IsSentAgain refl (record { does = refl })), refl)

abbrev pub u26 : Stage
u26 = after_all (ticked_stage u25 proxy_again (intent_again ∷ [])) 1 coordinator_25u (locks_again ∷ [])

pub ticked_again : TurnRun (world u25) (turn event.Tick (Sent 17 intent ∷ Sent 18 (lock 16 new_attributes) ∷ Sent 19 (lock 32 new_bytes) ∷ [])) (world u26)
ticked_again = ticks u25 proxy_again (intent_again ∷ []) coordinator_25u (locks_again ∷ []) refl refl course_ticked_again refl refl log_ticked_again

abbrev grants_directory : Segment
grants_directory = sends (memory.OfSite (site 4 [])) (grant 16 0) []

abbrev grants_store : Segment
grants_store = sends (memory.OfStore (store_of 0 [] [])) (grant 32 1) []

course_is_granted : Course (scene_of u26 16) (Given (lock 16 new_attributes) 21 ∷ []) server_19 (grants_directory ∷ [])
unfolding verdict locked_in last_finished
course_is_granted = (directory_may (scene_of u26 16) server_19 4 [] (lock 16 new_attributes) 21 grants_directory refl refl refl refl Answers refl refl, refl)

abbrev pub u27 : Stage
u27 = after_all (landed_stage u26 18) 16 server_19 (grants_directory ∷ [])

pub is_granted : TurnRun (world u26) (turn (event.Give 18) (Sent 20 (grant 16 0) ∷ [])) (world u27)
is_granted = gives u26 18 (lock 16 new_attributes) 21 server_19 (grants_directory ∷ []) refl refl refl course_is_granted

course_both_are_granted : Course (scene_of u27 32) (Given (lock 32 new_bytes) 21 ∷ []) store_20 (grants_store ∷ [])
unfolding verdict locked_in last_finished
course_both_are_granted = (store_may (scene_of u27 32) store_20 0 [] [] (lock 32 new_bytes) 21 grants_store refl refl refl refl Answers refl refl, refl)

abbrev pub u28 : Stage
u28 = after_all (landed_stage u27 19) 32 store_20 (grants_store ∷ [])

pub both_are_granted : TurnRun (world u27) (turn (event.Give 19) (Sent 21 (grant 32 1) ∷ [])) (world u28)
both_are_granted = gives u27 19 (lock 32 new_bytes) 21 store_20 (grants_store ∷ []) refl refl refl course_both_are_granted

abbrev counts : Segment
counts = quiet (memory.OfCoord (coordinator 5 [] [] (vote 16 ∷ []) [])) []

abbrev coordinator_29u : Actor
coordinator_29u = after_segment coordinator_26u counts

abbrev coordinator_30u : Actor
coordinator_30u = after_segment coordinator_29u decides

does_decide : decides ≡ coordinators.by_verdict coordinator_29u (coordinator 5 [] [] (vote 16 ∷ []) []) (grant 32 1) Answers
unfolding started_of
does_decide = ap (λ s. record decides { memory = memory.OfCoord (record (coordinator 5 [] [] (vote 32 ∷ vote 16 ∷ []) []) { site = s }) }) (sym (keeps 5 [] 5 decided))

abbrev server_27u : Actor
server_27u = after_segment server_19 grants_directory

abbrev store_28u : Actor
store_28u = after_segment store_20 grants_store

course_is_counted_again : Course (scene_of u28 1) (Given (grant 16 0) 22 ∷ []) coordinator_26u (counts ∷ [])
unfolding verdict started_of
course_is_counted_again = (coordinator_may (scene_of u28 1) coordinator_26u 5 [] [] [] [] (grant 16 0) 22 counts refl refl refl refl Answers refl refl, refl)

abbrev pub u29 : Stage
u29 = after_all (landed_stage u28 20) 1 coordinator_26u (counts ∷ [])

pub is_counted_again : TurnRun (world u28) (turn (event.Give 20) ([])) (world u29)
is_counted_again = gives u28 20 (grant 16 0) 22 coordinator_26u (counts ∷ []) refl refl refl course_is_counted_again

course_is_decided : Course (scene_of u29 1) (Given (grant 32 1) 23 ∷ []) coordinator_29u (decides ∷ [])
unfolding verdict
course_is_decided = (coordinator_may (scene_of u29 1) coordinator_29u 5 [] [] (vote 16 ∷ []) [] (grant 32 1) 23 decides refl refl refl refl Answers refl does_decide, refl)

abbrev pub u30 : Stage
u30 = after_all (landed_stage u29 21) 1 coordinator_29u (decides ∷ [])

pub is_decided : TurnRun (world u29) (turn (event.Give 21) (Sent 22 decided ∷ Sent 23 (apply 16) ∷ Sent 24 (apply 32) ∷ Did 10 epoch kept_write ∷ [])) (world u30)
is_decided = gives u29 21 (grant 32 1) 23 coordinator_29u (decides ∷ []) refl refl refl course_is_decided

course_is_replied_at_last : Course (scene_of u30 0) (Given decided 25 ∷ []) proxy_26u (replies 25 ∷ write_rests ∷ [])
course_is_replied_at_last = (
  may_use (scene_of u30 0) proxy_26u no_soft (of []) 10 6 intending second_request decided 25 _ refl refl refl refl refl refl refl refl (does_reply 25 26 25),
  (may_rest (later (scene_of u30 0) (replies 25)) (after_segment proxy_26u (replies 25)) no_soft (of []) 6 refl refl, refl),
)

abbrev pub u31 : Stage
u31 = after_all (landed_stage u30 22) 0 proxy_26u (replies 25 ∷ write_rests ∷ [])

pub is_replied_at_last : TurnRun (world u30) (turn (event.Give 22) (Replied 10 25 write_reply ∷ [])) (world u31)
is_replied_at_last = gives u30 22 decided 25 proxy_26u (replies 25 ∷ write_rests ∷ []) refl refl refl course_is_replied_at_last

course_anew_is_applied : Course (scene_of u31 16) (Given (apply 16) 25 ∷ []) server_27u (finishes_directory ∷ [])
unfolding verdict locked_in last_finished
course_anew_is_applied = (directory_may (scene_of u31 16) server_27u 4 [] (apply 16) 25 finishes_directory refl refl refl refl Answers refl refl, refl)

abbrev pub u32 : Stage
u32 = after_all (landed_stage u31 23) 16 server_27u (finishes_directory ∷ [])

pub anew_is_applied : TurnRun (world u31) (turn (event.Give 23) (Sent 25 (ack 16 0) ∷ [])) (world u32)
anew_is_applied = gives u31 23 (apply 16) 25 server_27u (finishes_directory ∷ []) refl refl refl course_anew_is_applied

course_anew_both_are_applied : Course (scene_of u32 32) (Given (apply 32) 25 ∷ []) store_28u (finishes_store ∷ [])
unfolding verdict locked_in last_finished
course_anew_both_are_applied = (store_may (scene_of u32 32) store_28u 0 [] [] (apply 32) 25 finishes_store refl refl refl refl Answers refl refl, refl)

abbrev pub u33 : Stage
u33 = after_all (landed_stage u32 24) 32 store_28u (finishes_store ∷ [])

pub anew_both_are_applied : TurnRun (world u32) (turn (event.Give 24) (Sent 26 (ack 32 1) ∷ [])) (world u33)
anew_both_are_applied = gives u32 24 (apply 32) 25 store_28u (finishes_store ∷ []) refl refl refl course_anew_both_are_applied

abbrev anew_counts_ack : Segment
anew_counts_ack = quiet (memory.OfCoord (coordinator 5 kept [] (vote 32 ∷ vote 16 ∷ []) (vote 16 ∷ []))) []

abbrev anew_coordinator_done : Coord
anew_coordinator_done = coordinator 5 kept [] (vote 32 ∷ vote 16 ∷ []) (vote 32 ∷ vote 16 ∷ [])

abbrev anew_ends_it : Segment
anew_ends_it = record { append = Some (records.OfLog (log.Done 1)); memory = memory.OfCoord anew_coordinator_done; frames = []; notes = []; todo = Proceeds ∷ [] }

abbrev anew_waits : Segment
anew_waits = quiet (memory.OfCoord anew_coordinator_done) []

course_anew_is_acknowledged : Course (scene_of u33 1) (Given (ack 16 0) 27 ∷ []) coordinator_30u (anew_counts_ack ∷ [])
unfolding verdict started_of
course_anew_is_acknowledged = (coordinator_may (scene_of u33 1) coordinator_30u 5 kept [] (vote 32 ∷ vote 16 ∷ []) [] (ack 16 0) 27 anew_counts_ack refl refl refl refl Answers refl refl, refl)

abbrev pub u34 : Stage
u34 = after_all (landed_stage u33 25) 1 coordinator_30u (anew_counts_ack ∷ [])

pub anew_is_acknowledged : TurnRun (world u33) (turn (event.Give 25) ([])) (world u34)
anew_is_acknowledged = gives u33 25 (ack 16 0) 27 coordinator_30u (anew_counts_ack ∷ []) refl refl refl course_anew_is_acknowledged

course_anew_is_finished : Course (scene_of u34 1) (Given (ack 32 1) 28 ∷ []) (after_segment coordinator_30u anew_counts_ack) (anew_ends_it ∷ anew_waits ∷ [])
unfolding verdict started_of
course_anew_is_finished = (
  coordinator_may (scene_of u34 1) (after_segment coordinator_30u anew_counts_ack) 5 kept [] (vote 32 ∷ vote 16 ∷ []) (vote 16 ∷ []) (ack 32 1) 28 anew_ends_it refl refl refl refl Answers refl refl,
  (ByCoordinator anew_coordinator_done refl refl (coordinators.IsResting refl (record { none = none_waits _; unowed = refl; does = refl })), refl),
)

abbrev pub u35 : Stage
u35 = after_all (landed_stage u34 26) 1 (after_segment coordinator_30u anew_counts_ack) (anew_ends_it ∷ anew_waits ∷ [])

pub anew_is_finished : TurnRun (world u34) (turn (event.Give 26) ([])) (world u35)
anew_is_finished = gives u34 26 (ack 32 1) 28 (after_segment coordinator_30u anew_counts_ack) (anew_ends_it ∷ anew_waits ∷ []) refl refl refl course_anew_is_finished

abbrev pub lost_run : Run setup anew_finished (world u35)
lost_run = (world u34, (world u33, (world u32, (world u31, (world u30, (world u29, (world u28, (world u27, (world u26, (world u25, (world u24, (world u23, (world t22, cut_run, refl, is_lost), refl, lost_ticked), refl, is_heard), refl, ticked_again), refl, is_granted), refl, both_are_granted), refl, is_counted_again), refl, is_decided), refl, is_replied_at_last), refl, anew_is_applied), refl, anew_both_are_applied), refl, anew_is_acknowledged), refl, anew_is_finished)

pub a_lost_decision_is_done : ALostDecisionIsDone
a_lost_decision_is_done = record {
  world = world u35;
  run = lost_run;
  empty = empty_disks;
  proxy = (memory.OfProxy (with_none no_soft (of []) 6), got u35.actors 0 _ refl);
  coordinator = (memory.OfCoord anew_coordinator_done, got u35.actors 1 _ refl);
  directory = (memory.OfSite (site 4 []), got u35.actors 16 _ refl);
  small = (memory.OfStore (store_of 0 [] []), got u35.actors 32 _ refl);
  node = (memory.OfStore no_store, got u35.actors 48 _ refl);
}
