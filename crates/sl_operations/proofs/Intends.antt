-- A stable WRITE: its intent, up to the Locks that the coordinator asks for.
use Rattle.std.proofs.Common.{◌≡◌, ℕ, List, [], ◌∷◌, Some, None, refl, sym, ap, ◌∙◌}
use Rattle.std.specs.FinMap.{get}
use Rattle.sl_defs.specs.declared.event.Event.TheVariants as event
use Rattle.sl_types.specs.declared.call.Stable.TheVariants as stable
use Rattle.sl_records.specs.declared.coordinator.LogEntry.TheVariants as log
use Rattle.sl_frames.specs.declared.frame.Frame.{Frame}
use Rattle.sl_frames.specs.declared.body.Body.TheVariants as body
use Rattle.sl_cells.specs.declared.keys.CellKey.TheVariants as key
use Rattle.sl_history.specs.Turns.{Sent}
use Rattle.sl_machine.specs.Records.{Record, cells_of, locked_in, last_finished, started_of, found_object}
use Rattle.sl_machine.specs.Records as records
use Rattle.sl_machine.specs.Memory.{Request, Waiting, Vote, Actor, nothing_told, no_soft}
use Rattle.sl_machine.specs.Memory as memory
use Rattle.sl_machine.specs.World.{Scene, Given, Arrives, Goes, Proceeds, Segment, quiet, sends, after_segment}
use Rattle.sl_machine.specs.Verdicts.{verdict, Answers, for_directory, for_coordinator, kept_or}
use Rattle.sl_machine.specs.Directories as directory
use Rattle.sl_machine.specs.Coordinators as coordinators
use Rattle.sl_machine.specs.Proxies.{still, notes, does_want, asks, with_request, by_answer, ends, done_event}
use Rattle.sl_machine.specs.Proxies as proxy
use Rattle.sl_machine.specs.Parts.{object_cell}
use Rattle.sl_machine.specs.Wants.{wants}
use Rattle.sl_machine.specs.Runs.{Run, TurnRun, ByCoordinator, ByProxy}
use Rattle.sl_witness.specs.Histories.{setup, epoch, turn}
use Rattle.sl_witness.proofs.Maps.{got_here}
use Rattle.sl_operations.specs.Histories.{new_node, created_packet, write_call, ask_file, found_file, intent, the_intent, new_attributes, new_bytes, lock, intended, started}
use Rattle.sl_operations.specs.Runs.{created_records, first_started}
use Rattle.sl_operations.proofs.Maps.{of, got}
use Rattle.sl_operations.proofs.Stages.{Stage, world, Course, scene_of, after_all, begun_stage, landed_stage, gives, calls}
use Rattle.sl_operations.proofs.Beginning.{coordinator_welcomed}
use Rattle.sl_operations.proofs.Singly.{may_use, with_one, with_none, takes_one, locks_one, asks_one, goes_on_one, may_go}
use Rattle.sl_operations.proofs.Serving.{site, directory_may, coordinator, coordinator_may, none_waits}
use Rattle.sl_operations.proofs.Creating.{file_hold}
use Rattle.sl_operations.proofs.Creates.{s14, created_run, proxy_14, server_13}
use Rattle.sl_operations.proofs.Writing.{stable_is_asked, with_file_told, writing, wants_lock, wants_cell, wants_intent}

-- ---- the call arrives, and the file's cell is asked for

abbrev pub bytes : List ℕ
bytes = write_call 8 0 2

abbrev new_call : Waiting
new_call = writing 2 stable.FileSync [] nothing_told 0

abbrev held_call : Waiting
held_call = writing 2 stable.FileSync (file_hold ∷ []) nothing_told 0

abbrev first_request : Request
first_request = record { tag = 4; to = 16; boot = 0; «body» = body.Ask (key.Attr 2 ∷ []) }

abbrev asking : Waiting
asking = with_request first_request held_call

-- a segment after which this call waits and goes on
abbrev pub going : Waiting → ℕ → Segment
going w tag = still (with_one no_soft (of []) 10 w tag) (Goes 10 ∷ [])

-- this call's request is sent
abbrev pub sending : Waiting → ℕ → Frame → Segment
sending w tag f = sends (memory.OfProxy (with_one no_soft (of []) 10 w tag)) f []

abbrev pub x15 : Scene
x15 = scene_of s14 0

abbrev proxy_15a : Actor
proxy_15a = after_segment proxy_14 (going new_call 4)

abbrev proxy_15b : Actor
proxy_15b = after_segment proxy_15a (going held_call 4)

abbrev proxy_15 : Actor
proxy_15 = after_segment proxy_15b (sending asking 5 ask_file)

asks_file : sending asking 5 ask_file ≡ does_want x15 (with_one no_soft (of []) 10 held_call 4) 10 held_call (wants setup (with_one no_soft (of []) 10 held_call 4) epoch held_call)
asks_file =
    asks_one no_soft (of []) 10 held_call first_request refl
    ∙ sym (ap (does_want x15 (with_one no_soft (of []) 10 held_call 4) 10 held_call) (wants_cell (of []) (of ((10, held_call) ∷ [])) (of []) (got [] 2 None refl)))

abbrev taking : List Segment
taking = going new_call 4 ∷ going held_call 4 ∷ sending asking 5 ask_file ∷ []

pub course_15 : Course x15 (Arrives 10 0 bytes ∷ []) proxy_14 taking
course_15 = (
  ByProxy (with_none no_soft (of []) 4) refl refl (proxy.IsTaken 10 0 bytes refl (record { does = takes_one no_soft (of []) 10 0 4 bytes _ stable_is_asked })),
  (
    may_go x15 proxy_15a no_soft (of []) 10 4 new_call _ refl refl refl (locks_one x15 no_soft (of []) 10 4 new_call (file_hold ∷ []) (wants_lock (of []) (of ((10, new_call) ∷ [])) (of []))),
    (may_go x15 proxy_15b no_soft (of []) 10 4 held_call _ refl refl refl asks_file, refl),
  ),
)

abbrev pub s15 : Stage
s15 = after_all (begun_stage s14) 0 proxy_14 taking

pub is_asked : TurnRun (world s14) (turn (event.Call 0 bytes) (Sent 9 ask_file ∷ [])) (world s15)
is_asked = calls s14 0 bytes proxy_14 taking refl refl course_15

-- ---- the directory server tells it

abbrev pub tells : Segment
tells = sends (memory.OfSite (site 4 [])) found_file []

file_is_answered : verdict for_directory (locked_in created_records) (last_finished created_records) (site 4 []) ask_file ≡ Answers
unfolding verdict locked_in last_finished
file_is_answered = ap (λ o. kept_or o Answers) (got [] 4 None refl)

has_file : get (cells_of created_records).objects 2 ≡ Some (object_cell new_node [])
unfolding cells_of
has_file = got_here _ 2 _

abbrev pub x16 : Scene
x16 = scene_of s15 16

does_tell : tells ≡ directory.by_verdict x16 server_13 (site 4 []) ask_file Answers
does_tell = sym (ap (λ o. sends (memory.OfSite (site 4 [])) (record found_file { «body» = body.Found (found_object o ∷ []) }) []) has_file)

pub course_16 : Course x16 (Given ask_file 10 ∷ []) server_13 (tells ∷ [])
course_16 = (directory_may x16 server_13 3 ((3, created_packet) ∷ []) ask_file 10 tells refl refl refl refl Answers file_is_answered does_tell, refl)

abbrev pub s16 : Stage
s16 = after_all (landed_stage s15 9) 16 server_13 (tells ∷ [])

pub is_told : TurnRun (world s15) (turn (event.Give 9) (Sent 10 found_file ∷ [])) (world s16)
is_told = gives s15 9 ask_file 10 server_13 (tells ∷ []) refl refl refl course_16

-- ---- the intent goes to the coordinator

abbrev knowing_call : Waiting
knowing_call = writing 2 stable.FileSync (file_hold ∷ []) with_file_told 11

abbrev pub second_request : Request
second_request = record { tag = 5; to = 1; boot = 0; «body» = body.Intent the_intent }

abbrev pub intending : Waiting
intending = with_request second_request knowing_call

abbrev pub x17 : Scene
x17 = scene_of s16 0

abbrev proxy_17a : Actor
proxy_17a = after_segment proxy_15 (going knowing_call 5)

abbrev pub proxy_17 : Actor
proxy_17 = after_segment proxy_17a (sending intending 6 intent)

intends : sending intending 6 intent ≡ does_want x17 (with_one no_soft (of []) 10 knowing_call 5) 10 knowing_call (wants setup (with_one no_soft (of []) 10 knowing_call 5) epoch knowing_call)
intends =
    asks_one no_soft (of []) 10 knowing_call second_request refl
    ∙ sym (ap (does_want x17 (with_one no_soft (of []) 10 knowing_call 5) 10 knowing_call) (wants_intent (of []) (of ((10, knowing_call) ∷ [])) (of []) (got [] 2 None refl)))

abbrev operating : List Segment
operating = going knowing_call 5 ∷ sending intending 6 intent ∷ []

pub course_17 : Course x17 (Given found_file 11 ∷ []) proxy_15 operating
course_17 = (
  may_use x17 proxy_15 no_soft (of []) 10 5 asking first_request found_file 11 _ refl refl refl refl refl refl refl refl (goes_on_one no_soft (of []) 10 5 asking knowing_call),
  (may_go x17 proxy_17a no_soft (of []) 10 5 knowing_call _ refl refl refl intends, refl),
)

abbrev pub s17 : Stage
s17 = after_all (landed_stage s16 10) 0 proxy_15 operating

pub is_intended : TurnRun (world s16) (turn (event.Give 10) (Sent 11 intent ∷ [])) (world s17)
is_intended = gives s16 10 found_file 11 proxy_15 operating refl refl refl course_17

abbrev pub intended_run : Run setup intended (world s17)
intended_run = (world s16, (world s15, (world s14, created_run, refl, is_asked), refl, is_told), refl, is_intended)

-- ---- the coordinator records it, and asks for the Locks

abbrev pub x18 : Scene
x18 = scene_of s17 1

abbrev enqueues : Segment
enqueues = quiet (memory.OfCoord (coordinator 5 [] (intent ∷ []) [] [])) (Proceeds ∷ [])

abbrev pub starts : Segment
starts = record {
  append = Some (records.OfLog (log.Intent first_started));
  memory = memory.OfCoord (coordinator 5 [] [] [] []);
  frames = lock 16 new_attributes ∷ lock 32 new_bytes ∷ [];
  notes = [];
  todo = Proceeds ∷ [];
}

abbrev pub waits : Segment
waits = quiet (memory.OfCoord (coordinator 5 [] [] [] [])) []

abbrev coordinator_18a : Actor
coordinator_18a = after_segment coordinator_welcomed enqueues

abbrev coordinator_18b : Actor
coordinator_18b = after_segment coordinator_18a starts

abbrev pub coordinator_18 : Actor
coordinator_18 = after_segment coordinator_18b waits

intent_is_answered : verdict for_coordinator None 0 (site 5 []) intent ≡ Answers
unfolding verdict
intent_is_answered = ap (λ o. kept_or o Answers) (got [] 5 None refl)

abbrev starting : List Segment
starting = enqueues ∷ starts ∷ waits ∷ []

pub course_18 : Course x18 (Given intent 12 ∷ []) coordinator_welcomed starting
unfolding started_of
course_18 = (
  coordinator_may x18 coordinator_welcomed 0 [] [] [] [] intent 12 enqueues refl refl refl refl Answers intent_is_answered refl,
  (
    ByCoordinator (coordinator 5 [] (intent ∷ []) [] []) refl refl (coordinators.IsStarted refl (record {
      next = record { before = []; frame = intent; intent = the_intent; behind = [] };
      is = record { is = refl; intent = refl; free = refl; first = refl };
      does = refl;
    })),
    (ByCoordinator (coordinator 5 [] [] [] []) refl refl (coordinators.IsResting refl (record { none = none_waits _; unowed = refl; does = refl })), refl),
  ),
)

abbrev pub s18 : Stage
s18 = after_all (landed_stage s17 11) 1 coordinator_welcomed starting

pub is_started : TurnRun (world s17) (turn (event.Give 11) (Sent 12 (lock 16 new_attributes) ∷ Sent 13 (lock 32 new_bytes) ∷ [])) (world s18)
is_started = gives s17 11 intent 12 coordinator_welcomed starting refl refl refl course_18

abbrev pub started_run : Run setup started (world s18)
started_run = (world s17, intended_run, refl, is_started)
