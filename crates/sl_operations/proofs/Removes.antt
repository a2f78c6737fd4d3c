-- REMOVE of a file: the directory server does it alone.
use Rattle.std.proofs.Common.{◌≡◌, ℕ, List, [], ◌∷◌, is_some, Some, None, refl, sym, ap, ◌∙◌, unwrap_or}
use Rattle.std.specs.FinMap.{get}
use Rattle.sl_defs.specs.declared.event.Event.TheVariants as event
use Rattle.sl_types.specs.declared.kind.Status.TheVariants as status
use Rattle.sl_records.specs.declared.directory.DirRecord.TheVariants as dir
use Rattle.sl_frames.specs.declared.frame.Frame.{Frame}
use Rattle.sl_frames.specs.declared.body.Body.TheVariants as body
use Rattle.sl_frames.specs.declared.found.FoundCell.TheVariants as cell
use Rattle.sl_cells.specs.declared.keys.CellKey.TheVariants as key
use Rattle.sl_cells.specs.declared.changes.Change.{Change}
use Rattle.sl_history.specs.Turns.{Sent, Did, Replied}
use Rattle.sl_machine.specs.Records.{cells_of, locked_in, last_finished}
use Rattle.sl_machine.specs.Records as records
use Rattle.sl_machine.specs.Memory.{Request, Waiting, Actor, nothing_told, no_soft}
use Rattle.sl_machine.specs.Memory as memory
use Rattle.sl_machine.specs.World.{Scene, Given, Arrives, Goes, Wakes, Segment, sends, after_segment}
use Rattle.sl_machine.specs.Verdicts.{verdict, Answers, for_directory, kept_or, keeping}
use Rattle.sl_machine.specs.Directories as directory
use Rattle.sl_machine.specs.Proxies.{still, notes, does_want, asks, with_request, by_packet_if, ends, done_event}
use Rattle.sl_machine.specs.Proxies as proxy
use Rattle.sl_machine.specs.Packets.{with_object, inner_object, reply_in}
use Rattle.sl_machine.specs.Parts.{cell_changes, object_cell}
use Rattle.sl_machine.specs.Directories.{serves, gathered_of, did_record}
use Rattle.sl_model.specs.Gathered.{effect_from}
use Rattle.sl_model.specs.Looking.{Outcome}
use Rattle.sl_model.specs.Procedures.{fault}
use Rattle.sl_history.specs.Arrivals.{asked_in, answer_to}
use Rattle.sl_defs.specs.Items.{u32_text, u64_text, u32_at, u64_at}
use Rattle.sl_defs.specs.Rpc.{zero_at}
use Rattle.sl_types.specs.Handles.{form_text, form_at, magic_at, internal_of, handle_of}
use Rattle.sl_machine.specs.Wants.{wants}
use Rattle.sl_machine.specs.Runs.{Run, TurnRun, ByProxy}
use Rattle.sl_witness.specs.Histories.{setup, epoch, turn, no_fileid}
use Rattle.sl_witness.proofs.Openings.{no_store, empty_disks}
use Rattle.sl_witness.proofs.Maps.{got_here, got_past}
use Rattle.sl_operations.specs.Histories.{name, full_root, new_node, new_name, created_packet, remove_call, remove_reply, look_up, found_name, ask_named, found_named, remove, removed_packet}
use Rattle.sl_operations.specs.Histories as history
use Rattle.sl_operations.specs.Runs.{created_records, did_remove, AFileIsRemoved}
use Rattle.sl_operations.proofs.Maps.{of, got, got_one, removed}
use Rattle.sl_operations.proofs.Names.{put_here, names_total}
use Rattle.sl_operations.proofs.Stages.{Stage, world, Course, later, scene_of, after_all, begun_stage, landed_stage, gives, calls}
use Rattle.sl_operations.proofs.Beginning.{coordinator_idle}
use Rattle.sl_operations.proofs.Singly.{may_use, with_one, with_none, takes_one, locks_one, asks_one, goes_on_one, ends_one, may_go, may_rest}
use Rattle.sl_operations.proofs.Serving.{site, keeps, directory_may}
use Rattle.sl_operations.proofs.Creating.{root_hold, file_hold}
use Rattle.sl_operations.proofs.Creates.{s14, created_run, proxy_14, server_13}
use Rattle.sl_operations.proofs.Removing.{the_remove, client_is_asked, server_asked, server_is_asked, is_forwarded, with_name_told, with_file_told, removing, wants_lock, wants_name, wants_file_lock, wants_file, wants_remove, outcome, has_file, changes_cells, is_read}

-- ---- the call arrives, and the name is asked for

abbrev pub bytes : List ℕ
bytes = remove_call 8 0

abbrev pub new_call : Waiting
new_call = removing [] nothing_told 0

abbrev pub held_call : Waiting
held_call = removing (root_hold ∷ []) nothing_told 0

-- for the name, under this tag
abbrev pub name_request : ℕ → Request
name_request tag = record { tag = tag; to = 16; boot = 0; «body» = body.Ask (key.Name 1 name ∷ key.Attr 1 ∷ []) }

abbrev pub asking : ℕ → Waiting
asking tag = with_request (name_request tag) held_call

-- a segment after which the call of an event waits and goes on
abbrev pub going : ℕ → Waiting → ℕ → Segment
going n w tag = still (with_one no_soft (of []) n w tag) (Goes n ∷ [])

-- its request is sent
abbrev pub sending : ℕ → Waiting → ℕ → Frame → Segment
sending n w tag f = sends (memory.OfProxy (with_one no_soft (of []) n w tag)) f []

abbrev x15 : Scene
x15 = scene_of s14 0

abbrev proxy_15a : Actor
proxy_15a = after_segment proxy_14 (going 10 new_call 4)

abbrev proxy_15b : Actor
proxy_15b = after_segment proxy_15a (going 10 held_call 4)

abbrev proxy_15 : Actor
proxy_15 = after_segment proxy_15b (sending 10 (asking 4) 5 (look_up 10 4))

asks_name : sending 10 (asking 4) 5 (look_up 10 4) ≡ does_want x15 (with_one no_soft (of []) 10 held_call 4) 10 held_call (wants setup (with_one no_soft (of []) 10 held_call 4) epoch held_call)
asks_name =
    asks_one no_soft (of []) 10 held_call (name_request 4) refl
    ∙ sym (ap (does_want x15 (with_one no_soft (of []) 10 held_call 4) 10 held_call) (wants_name (of ((10, held_call) ∷ [])) 4))

abbrev takes : List Segment
takes = going 10 new_call 4 ∷ going 10 held_call 4 ∷ sending 10 (asking 4) 5 (look_up 10 4) ∷ []

course_15 : Course x15 (Arrives 10 0 bytes ∷ []) proxy_14 takes
course_15 = (
  ByProxy (with_none no_soft (of []) 4) refl refl (proxy.IsTaken 10 0 bytes refl (record { does = takes_one no_soft (of []) 10 0 4 bytes _ client_is_asked })),
  (
    may_go x15 proxy_15a no_soft (of []) 10 4 new_call _ refl refl refl (locks_one x15 no_soft (of []) 10 4 new_call (root_hold ∷ []) (wants_lock (of ((10, new_call) ∷ [])) 4)),
    (may_go x15 proxy_15b no_soft (of []) 10 4 held_call _ refl refl refl asks_name, refl),
  ),
)

abbrev s15 : Stage
s15 = after_all (begun_stage s14) 0 proxy_14 takes

pub is_asked : TurnRun (world s14) (turn (event.Call 0 bytes) (Sent 9 (look_up 10 4) ∷ [])) (world s15)
is_asked = calls s14 0 bytes proxy_14 takes refl refl course_15

-- ---- the server tells what it leads to

abbrev tells_name : Segment
tells_name = sends (memory.OfSite (site 4 [])) found_name []

name_is_answered : verdict for_directory (locked_in created_records) (last_finished created_records) (site 4 []) (look_up 10 4) ≡ Answers
unfolding verdict locked_in last_finished
name_is_answered = ap (λ o. kept_or o Answers) (got [] 4 None refl)

has_root : get (cells_of created_records).objects 1 ≡ Some (object_cell full_root [])
unfolding cells_of
has_root = got_past _ 2 _ 1 _ refl (got_here _ 1 _)

has_name : get (cells_of created_records).names (1, name) ≡ Some new_name
unfolding cells_of
has_name = put_here names_total _ (1, name) _ refl

has_node : get (cells_of created_records).objects 2 ≡ Some (object_cell new_node [])
unfolding cells_of
has_node = got_here _ 2 _

abbrev x16 : Scene
x16 = scene_of s15 16

does_tell_name : tells_name ≡ directory.by_verdict x16 server_13 (site 4 []) (look_up 10 4) Answers
does_tell_name = sym (
    ap (λ o. sends (memory.OfSite (site 4 [])) (record found_name { «body» = body.Found (records.found_name o ∷ records.found_object (get (cells_of created_records).objects 1) ∷ []) }) []) has_name
    ∙ ap (λ o. sends (memory.OfSite (site 4 [])) (record found_name { «body» = body.Found (cell.Name new_name ∷ records.found_object o ∷ []) }) []) has_root)

course_16 : Course x16 (Given (look_up 10 4) 10 ∷ []) server_13 (tells_name ∷ [])
course_16 = (directory_may x16 server_13 3 ((3, created_packet) ∷ []) (look_up 10 4) 10 tells_name refl refl refl refl Answers name_is_answered does_tell_name, refl)

abbrev s16 : Stage
s16 = after_all (landed_stage s15 9) 16 server_13 (tells_name ∷ [])

pub is_told : TurnRun (world s15) (turn (event.Give 9) (Sent 10 found_name ∷ [])) (world s16)
is_told = gives s15 9 (look_up 10 4) 10 server_13 (tells_name ∷ []) refl refl refl course_16

-- ---- the file's cell is asked for

abbrev knowing_call : Waiting
knowing_call = removing (root_hold ∷ []) with_name_told 11

abbrev both_held : Waiting
both_held = removing (root_hold ∷ file_hold ∷ []) with_name_told 11

abbrev file_request : Request
file_request = record { tag = 5; to = 16; boot = 0; «body» = body.Ask (key.Attr 2 ∷ []) }

abbrev fetching : Waiting
fetching = with_request file_request both_held

abbrev x17 : Scene
x17 = scene_of s16 0

abbrev proxy_17a : Actor
proxy_17a = after_segment proxy_15 (going 10 knowing_call 5)

abbrev proxy_17b : Actor
proxy_17b = after_segment proxy_17a (going 10 both_held 5)

abbrev proxy_17 : Actor
proxy_17 = after_segment proxy_17b (sending 10 fetching 6 ask_named)

asks_file : sending 10 fetching 6 ask_named ≡ does_want x17 (with_one no_soft (of []) 10 both_held 5) 10 both_held (wants setup (with_one no_soft (of []) 10 both_held 5) epoch both_held)
asks_file =
    asks_one no_soft (of []) 10 both_held file_request refl
    ∙ sym (ap (does_want x17 (with_one no_soft (of []) 10 both_held 5) 10 both_held) (wants_file (of []) (of ((10, both_held) ∷ [])) (of []) (got [] 2 None refl)))

abbrev fetches : List Segment
fetches = going 10 knowing_call 5 ∷ going 10 both_held 5 ∷ sending 10 fetching 6 ask_named ∷ []

course_17 : Course x17 (Given found_name 11 ∷ []) proxy_15 fetches
course_17 = (
  may_use x17 proxy_15 no_soft (of []) 10 5 (asking 4) (name_request 4) found_name 11 _ refl refl refl refl refl refl refl refl (goes_on_one no_soft (of []) 10 5 (asking 4) knowing_call),
  (
    may_go x17 proxy_17a no_soft (of []) 10 5 knowing_call _ refl refl refl (locks_one x17 no_soft (of []) 10 5 knowing_call (file_hold ∷ []) (wants_file_lock (of ((10, knowing_call) ∷ [])))),
    (may_go x17 proxy_17b no_soft (of []) 10 5 both_held _ refl refl refl asks_file, refl),
  ),
)

abbrev s17 : Stage
s17 = after_all (landed_stage s16 10) 0 proxy_15 fetches

pub is_fetching : TurnRun (world s16) (turn (event.Give 10) (Sent 11 ask_named ∷ [])) (world s17)
is_fetching = gives s16 10 found_name 11 proxy_15 fetches refl refl refl course_17

-- ---- the server tells it

abbrev server_16 : Actor
server_16 = after_segment server_13 tells_name

abbrev tells_file : Segment
tells_file = sends (memory.OfSite (site 5 [])) found_named []

file_is_answered : verdict for_directory (locked_in created_records) (last_finished created_records) (site 5 []) ask_named ≡ Answers
unfolding verdict locked_in last_finished
file_is_answered = ap (λ o. kept_or o Answers) (got [] 5 None refl)

abbrev x18 : Scene
x18 = scene_of s17 16

does_tell_file : tells_file ≡ directory.by_verdict x18 server_16 (site 5 []) ask_named Answers
does_tell_file = sym (ap (λ o. sends (memory.OfSite (site 5 [])) (record found_named { «body» = body.Found (records.found_object o ∷ []) }) []) has_node)

course_18 : Course x18 (Given ask_named 12 ∷ []) server_16 (tells_file ∷ [])
course_18 = (directory_may x18 server_16 4 [] ask_named 12 tells_file refl refl refl refl Answers file_is_answered does_tell_file, refl)

abbrev s18 : Stage
s18 = after_all (landed_stage s17 11) 16 server_16 (tells_file ∷ [])

pub is_fetched : TurnRun (world s17) (turn (event.Give 11) (Sent 12 found_named ∷ [])) (world s18)
is_fetched = gives s17 11 ask_named 12 server_16 (tells_file ∷ []) refl refl refl course_18

-- ---- the proxy forwards the call

abbrev ready_call : Waiting
ready_call = removing (root_hold ∷ file_hold ∷ []) with_file_told 13

abbrev remove_request : Request
remove_request = record { tag = 6; to = 16; boot = 0; «body» = body.Forward 0 (remove_call 6 16) }

abbrev ordering : Waiting
ordering = with_request remove_request ready_call

abbrev x19 : Scene
x19 = scene_of s18 0

abbrev proxy_19a : Actor
proxy_19a = after_segment proxy_17 (going 10 ready_call 6)

abbrev proxy_19 : Actor
proxy_19 = after_segment proxy_19a (sending 10 ordering 7 remove)

orders : sending 10 ordering 7 remove ≡ does_want x19 (with_one no_soft (of []) 10 ready_call 6) 10 ready_call (wants setup (with_one no_soft (of []) 10 ready_call 6) epoch ready_call)
orders =
    asks_one no_soft (of []) 10 ready_call remove_request refl
    ∙ sym (
    ap (does_want x19 (with_one no_soft (of []) 10 ready_call 6) 10 ready_call) (wants_remove (of []) (of ((10, ready_call) ∷ [])) (of []) (got [] 2 None refl))
    ∙ ap (λ text. asks (with_one no_soft (of []) 10 ready_call 6) 10 ready_call (record remove_request { «body» = body.Forward 0 text })) is_forwarded)

abbrev forwards : List Segment
forwards = going 10 ready_call 6 ∷ sending 10 ordering 7 remove ∷ []

course_19 : Course x19 (Given found_named 13 ∷ []) proxy_17 forwards
course_19 = (
  may_use x19 proxy_17 no_soft (of []) 10 6 fetching file_request found_named 13 _ refl refl refl refl refl refl refl refl (goes_on_one no_soft (of []) 10 6 fetching ready_call),
  (may_go x19 proxy_19a no_soft (of []) 10 6 ready_call _ refl refl refl orders, refl),
)

abbrev s19 : Stage
s19 = after_all (landed_stage s18 12) 0 proxy_17 forwards

pub is_ordered : TurnRun (world s18) (turn (event.Give 12) (Sent 13 remove ∷ [])) (world s19)
is_ordered = gives s18 12 found_named 13 proxy_17 forwards refl refl refl course_19

-- ---- the server does it

abbrev server_18 : Actor
server_18 = after_segment server_16 tells_file

remove_is_answered : verdict for_directory (locked_in created_records) (last_finished created_records) (site 6 []) remove ≡ Answers
unfolding verdict locked_in last_finished
remove_is_answered = ap (λ o. kept_or o Answers) (got [] 6 None refl)

abbrev does_remove : Segment
does_remove = record {
  append = Some (records.OfDir (dir.Did did_remove));
  memory = memory.OfSite (site 6 ((6, removed_packet) ∷ []));
  frames = removed_packet ∷ [];
  notes = Did 10 epoch no_fileid ∷ [];
  todo = [];
}

abbrev x20 : Scene
x20 = scene_of s19 16

-- the segment for this outcome and these changes
abbrev done_with : Outcome → List Change → Segment
done_with o changes =
    let text = answer_to server_asked (with_object (inner_object 16) o.answer) in
    record {
      append = Some (did_record x20 remove 0 server_asked changes text);
      memory = memory.OfSite (keeping 6 (record removed_packet { «body» = body.Packet text }) (site 6 []));
      frames = record removed_packet { «body» = body.Packet text } ∷ [];
      notes = Did 10 epoch no_fileid ∷ [];
      todo = [];
    }

serves_remove : record does_remove { memory = memory.OfSite (keeping 6 removed_packet (site 6 [])) } ≡ serves x20 (site 6 []) remove 0 (cells_of created_records) (Some server_asked)
unfolding u32_text u64_text u32_at u64_at zero_at form_text form_at magic_at internal_of handle_of
serves_remove = sym (
    ap
    (λ r. done_with (effect_from (fault (the_remove 0)) r) (cell_changes (gathered_of (cells_of created_records)) (the_remove 0) (effect_from (fault (the_remove 0)) r).changes))
    (has_file (cells_of created_records) has_root has_name has_node)
    ∙ ap (done_with outcome) (changes_cells (cells_of created_records) has_root))

does_it : does_remove ≡ directory.by_verdict x20 server_18 (site 6 []) remove Answers
does_it =
    ap (λ s. record does_remove { memory = memory.OfSite s }) (sym (keeps 6 [] 6 removed_packet))
    ∙ (serves_remove ∙ ap (λ d. serves x20 (site 6 []) remove 0 (cells_of created_records) (asked_in d)) (sym server_is_asked))

course_20 : Course x20 (Given remove 14 ∷ []) server_18 (does_remove ∷ [])
course_20 = (directory_may x20 server_18 5 [] remove 14 does_remove refl refl refl refl Answers remove_is_answered does_it, refl)

abbrev s20 : Stage
s20 = after_all (landed_stage s19 13) 16 server_18 (does_remove ∷ [])

pub is_done : TurnRun (world s19) (turn (event.Give 13) (Sent 14 removed_packet ∷ Did 10 epoch no_fileid ∷ [])) (world s20)
is_done = gives s19 13 remove 14 server_18 (does_remove ∷ []) refl refl refl course_20

-- ---- the proxy replies

abbrev x21 : Scene
x21 = scene_of s20 0

abbrev replies : Segment
replies = notes (with_none no_soft (of []) 7) (Replied 10 15 (remove_reply 8 status.Ok) ∷ []) (Wakes ∷ [])

abbrev rests : Segment
rests = still (with_none no_soft (of []) 7) []

abbrev proxy_21a : Actor
proxy_21a = after_segment proxy_19 replies

does_reply : replies ≡ by_packet_if x21 (with_one no_soft (of []) 10 ordering 7) 10 ordering 15 16 (reply_in 12 (remove_reply 6 status.Ok))
does_reply =
    ends_one no_soft no_soft (of []) 10 7 ordering (Replied 10 15 (remove_reply 8 status.Ok) ∷ [])
    ∙ sym (
    ap (by_packet_if x21 (with_one no_soft (of []) 10 ordering 7) 10 ordering 15 16) is_read
    ∙ (ap (λ m. ends (with_one no_soft (of []) 10 ordering 7) 10 (record no_soft { dirty = m }) (Replied 10 (done_event x21 10) (remove_reply 8 status.Ok) ∷ [])) (removed [] 2)
    ∙ ap (λ o. ends (with_one no_soft (of []) 10 ordering 7) 10 no_soft (Replied 10 (unwrap_or o 16) (remove_reply 8 status.Ok) ∷ [])) (got_one 10 15)))

course_21 : Course x21 (Given removed_packet 15 ∷ []) proxy_19 (replies ∷ rests ∷ [])
course_21 = (
  may_use x21 proxy_19 no_soft (of []) 10 7 ordering remove_request removed_packet 15 _ refl refl refl refl refl refl (ap is_some is_read) refl does_reply,
  (may_rest (later x21 replies) proxy_21a no_soft (of []) 7 refl refl, refl),
)

abbrev pub s21 : Stage
s21 = after_all (landed_stage s20 14) 0 proxy_19 (replies ∷ rests ∷ [])

pub is_replied : TurnRun (world s20) (turn (event.Give 14) (Replied 10 15 (remove_reply 8 status.Ok) ∷ [])) (world s21)
is_replied = gives s20 14 removed_packet 15 proxy_19 (replies ∷ rests ∷ []) refl refl refl course_21

abbrev pub removed_run : Run setup history.removed (world s21)
removed_run = (world s20, (world s19, (world s18, (world s17, (world s16, (world s15, (world s14, created_run, refl, is_asked), refl, is_told), refl, is_fetching), refl, is_fetched), refl, is_ordered), refl, is_done), refl, is_replied)

-- ---- after it

abbrev pub proxy_21 : Actor
proxy_21 = after_segment proxy_21a rests

abbrev pub server_20 : Actor
server_20 = after_segment server_18 does_remove

pub a_file_is_removed : AFileIsRemoved
a_file_is_removed = record {
  world = world s21;
  run = removed_run;
  empty = empty_disks;
  proxy = (memory.OfProxy (with_none no_soft (of []) 7), got s21.actors 0 _ refl);
  coordinator = (memory.OfCoord coordinator_idle, got s21.actors 1 _ refl);
  directory = (memory.OfSite (site 6 ((6, removed_packet) ∷ [])), got s21.actors 16 _ refl);
  small = (memory.OfStore no_store, got s21.actors 32 _ refl);
  node = (memory.OfStore no_store, got s21.actors 48 _ refl);
}
