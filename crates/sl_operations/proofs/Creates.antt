-- CREATE of a file in the root: the directory server does it alone.
use Rattle.std.proofs.Common.{◌≡◌, ℕ, List, [], ◌∷◌, is_some, Some, None, refl, sym, ap, ◌∙◌, lit<, unwrap_or}
use Rattle.std.specs.FinMap.{get, get-empty}
use Rattle.sl_defs.specs.declared.event.Event.TheVariants as event
use Rattle.sl_records.specs.declared.directory.DirRecord.TheVariants as dir
use Rattle.sl_frames.specs.declared.frame.Frame.{Frame}
use Rattle.sl_frames.specs.declared.body.Body.TheVariants as body
use Rattle.sl_frames.specs.declared.found.FoundCell.TheVariants as cell
use Rattle.sl_cells.specs.declared.keys.CellKey.TheVariants as key
use Rattle.sl_cells.specs.declared.changes.Change.{Change}
use Rattle.sl_history.specs.Turns.{Sent, Did, Replied}
use Rattle.sl_machine.specs.Records.{Record, cells_of, locked_in, last_finished, next_counter, root_cell, found_object, found_name}
use Rattle.sl_machine.specs.Records as records
use Rattle.sl_machine.specs.Memory.{Request, Waiting, Actor, nothing_told, no_soft}
use Rattle.sl_machine.specs.Memory as memory
use Rattle.sl_machine.specs.World.{Scene, Given, Arrives, Goes, Wakes, Segment, sends, after_segment}
use Rattle.sl_machine.specs.Verdicts.{verdict, Answers, for_directory, kept_or, keeping}
use Rattle.sl_machine.specs.Directories as directory
use Rattle.sl_machine.specs.Proxies.{still, notes, does_want, asks, with_request, by_packet_if, ends, done_event}
use Rattle.sl_machine.specs.Proxies as proxy
use Rattle.sl_machine.specs.Packets.{with_object, inner_object, reply_in}
use Rattle.sl_machine.specs.Parts.{cell_changes}
use Rattle.sl_machine.specs.Directories.{serves, gathered_of, did_record}
use Rattle.sl_model.specs.Gathered.{effect_from}
use Rattle.sl_model.specs.Looking.{Outcome}
use Rattle.sl_model.specs.Procedures.{fault}
use Rattle.sl_history.specs.Arrivals.{asked_in, answer_to}
use Rattle.sl_history.specs.Placing.{carrier}
use Rattle.sl_defs.specs.Items.{u32_text, u64_text, u32_at, u64_at}
use Rattle.sl_defs.specs.Rpc.{zero_at}
use Rattle.sl_types.specs.Handles.{form_text, form_at, magic_at, internal_of, handle_of}
use Rattle.sl_machine.specs.Wants.{wants}
use Rattle.sl_machine.specs.Runs.{Run, TurnRun, ByDirectory, ByProxy}
use Rattle.sl_witness.specs.Histories.{setup, epoch, fence, turn}
use Rattle.sl_witness.proofs.Openings.{no_site, no_store, empty_disks}
use Rattle.sl_witness.proofs.Maps.{got_here, got_past, got_none}
use Rattle.sl_witness.proofs.Welcomes.{proxy_7}
use Rattle.sl_operations.specs.Histories.{name, create_call, create_reply, ask_name, found_none, mint, minted, create, created_packet, file_two, created}
use Rattle.sl_operations.specs.Runs.{first_mint, did_create, AFileIsMade}
use Rattle.sl_operations.proofs.Maps.{of, got, got_one, removed}
use Rattle.sl_operations.proofs.Stages.{Stage, world, Course, later, scene_of, after_all, begun_stage, landed_stage, gives, calls}
use Rattle.sl_operations.proofs.Beginning.{s7, welcomed_run, directory_opened, coordinator_idle}
use Rattle.sl_operations.proofs.Singly.{may_use, with_one, with_none, takes_one, locks_one, asks_one, goes_on_one, ends_one, may_go, may_rest}
use Rattle.sl_operations.proofs.Serving.{site, keeps, directory_may}
use Rattle.sl_operations.proofs.Creating.{the_create, server_asked, server_is_asked, outcome, has_no_name, changes_cells, is_read, client_is_asked, root_hold, file_hold, with_name_told, with_id_told, creating, wants_lock, wants_name, wants_id, wants_new_lock, wants_create, is_forwarded}

-- ---- the call arrives, and the name is asked for

abbrev bytes : List ℕ
bytes = create_call 7 0

abbrev new_call : Waiting
new_call = creating [] nothing_told 0

abbrev held_call : Waiting
held_call = creating (root_hold ∷ []) nothing_told 0

abbrev first_request : Request
first_request = record { tag = 1; to = 16; boot = 0; «body» = body.Ask (key.Name 1 name ∷ key.Attr 1 ∷ []) }

abbrev asking : Waiting
asking = with_request first_request held_call

-- a segment after which this call waits and goes on
abbrev going : Waiting → ℕ → Segment
going w tag = still (with_one no_soft (of []) 3 w tag) (Goes 3 ∷ [])

-- this call's request is sent
abbrev sending : Waiting → ℕ → Frame → Segment
sending w tag f = sends (memory.OfProxy (with_one no_soft (of []) 3 w tag)) f []

abbrev x8 : Scene
x8 = scene_of s7 0

abbrev proxy_8a : Actor
proxy_8a = after_segment proxy_7 (going new_call 1)

abbrev proxy_8b : Actor
proxy_8b = after_segment proxy_8a (going held_call 1)

abbrev pub proxy_8 : Actor
proxy_8 = after_segment proxy_8b (sending asking 2 ask_name)

asks_name : (x : Scene) → sending asking 2 ask_name ≡ does_want x (with_one no_soft (of []) 3 held_call 1) 3 held_call (wants setup (with_one no_soft (of []) 3 held_call 1) epoch held_call)
asks_name x = asks_one no_soft (of []) 3 held_call first_request refl ∙ sym (ap (does_want x (with_one no_soft (of []) 3 held_call 1) 3 held_call) (wants_name (of ((3, held_call) ∷ []))))

course_8 : Course x8 (Arrives 3 0 bytes ∷ []) proxy_7 (going new_call 1 ∷ going held_call 1 ∷ sending asking 2 ask_name ∷ [])
course_8 = (
  ByProxy (with_none no_soft (of []) 1) refl refl (proxy.IsTaken 3 0 bytes refl (record { does = takes_one no_soft (of []) 3 0 1 bytes _ client_is_asked })),
  (
    may_go x8 proxy_8a no_soft (of []) 3 1 new_call _ refl refl refl (locks_one x8 no_soft (of []) 3 1 new_call (root_hold ∷ []) (wants_lock (of ((3, new_call) ∷ [])))),
    (may_go x8 proxy_8b no_soft (of []) 3 1 held_call _ refl refl refl (asks_name x8), refl),
  ),
)

abbrev pub s8 : Stage
s8 = after_all (begun_stage s7) 0 proxy_7 (going new_call 1 ∷ going held_call 1 ∷ sending asking 2 ask_name ∷ [])

pub is_asked : TurnRun (world s7) (turn (event.Call 0 bytes) (Sent 3 ask_name ∷ [])) (world s8)
is_asked = calls s7 0 bytes proxy_7 (going new_call 1 ∷ going held_call 1 ∷ sending asking 2 ask_name ∷ []) refl refl course_8

-- ---- the server tells that it isn't there

abbrev renews : Segment
renews = record { append = Some (records.OfDir (dir.Fence fence)); memory = memory.OfSite (site 1 []); frames = []; notes = []; todo = Given ask_name 3 ∷ [] }

abbrev server_9a : Actor
server_9a = after_segment directory_opened renews

abbrev tells : Segment
tells = sends (memory.OfSite (site 1 [])) found_none []

abbrev records_9 : List Record
records_9 = records.OfDir (dir.Fence fence) ∷ records.OfDir (dir.Root (root_cell 1)) ∷ []

name_is_answered : verdict for_directory (locked_in records_9) (last_finished records_9) (site 1 []) ask_name ≡ Answers
unfolding verdict locked_in last_finished
name_is_answered = ap (λ o. kept_or o Answers) (got [] 1 None refl)

has_root : get (cells_of records_9).objects 1 ≡ Some (root_cell 1)
unfolding cells_of
has_root = got_here _ 1 _

has_no_name_yet : get (cells_of records_9).names (1, name) ≡ None
unfolding cells_of
has_no_name_yet = get-empty _ (1, name)

abbrev x9 : Scene
x9 = scene_of s8 16

does_tell : tells ≡ directory.by_verdict x9 server_9a (site 1 []) ask_name Answers
does_tell = sym (
    ap (λ o. sends (memory.OfSite (site 1 [])) (record found_none { «body» = body.Found (found_name o ∷ found_object (get (cells_of records_9).objects 1) ∷ []) }) []) has_no_name_yet
    ∙ ap (λ o. sends (memory.OfSite (site 1 [])) (record found_none { «body» = body.Found (cell.Absent ∷ found_object o ∷ []) }) []) has_root)

course_9 : Course x9 (Given ask_name 3 ∷ []) directory_opened (renews ∷ tells ∷ [])
course_9 = (
  ByDirectory no_site refl refl (directory.IsRenewed ask_name 3 refl (record { greater = lit< tt; does = refl })),
  (directory_may x9 server_9a 1 [] ask_name 3 tells refl refl refl refl Answers name_is_answered does_tell, refl),
)

abbrev pub s9 : Stage
s9 = after_all (landed_stage s8 3) 16 directory_opened (renews ∷ tells ∷ [])

pub is_told : TurnRun (world s8) (turn (event.Give 3) (Sent 4 found_none ∷ [])) (world s9)
is_told = gives s8 3 ask_name 3 directory_opened (renews ∷ tells ∷ []) refl refl refl course_9

-- ---- a fileid is asked for

abbrev knowing_call : Waiting
knowing_call = creating (root_hold ∷ []) with_name_told 4

abbrev second_request : Request
second_request = record { tag = 2; to = 16; boot = 0; «body» = body.Mint 0 }

abbrev minting : Waiting
minting = with_request second_request knowing_call

abbrev x10 : Scene
x10 = scene_of s9 0

abbrev proxy_10a : Actor
proxy_10a = after_segment proxy_8 (going knowing_call 2)

abbrev proxy_10 : Actor
proxy_10 = after_segment proxy_10a (sending minting 3 mint)

asks_id : sending minting 3 mint ≡ does_want x10 (with_one no_soft (of []) 3 knowing_call 2) 3 knowing_call (wants setup (with_one no_soft (of []) 3 knowing_call 2) epoch knowing_call)
unfolding carrier
asks_id =
    asks_one no_soft (of []) 3 knowing_call second_request refl
    ∙ sym (ap (does_want x10 (with_one no_soft (of []) 3 knowing_call 2) 3 knowing_call) (wants_id (of ((3, knowing_call) ∷ []))))

course_10 : Course x10 (Given found_none 4 ∷ []) proxy_8 (going knowing_call 2 ∷ sending minting 3 mint ∷ [])
course_10 = (
  may_use x10 proxy_8 no_soft (of []) 3 2 asking first_request found_none 4 _ refl refl refl refl refl refl refl refl (goes_on_one no_soft (of []) 3 2 asking knowing_call),
  (may_go x10 proxy_10a no_soft (of []) 3 2 knowing_call _ refl refl refl asks_id, refl),
)

abbrev pub s10 : Stage
s10 = after_all (landed_stage s9 4) 0 proxy_8 (going knowing_call 2 ∷ sending minting 3 mint ∷ [])

pub is_minting : TurnRun (world s9) (turn (event.Give 4) (Sent 5 mint ∷ [])) (world s10)
is_minting = gives s9 4 found_none 4 proxy_8 (going knowing_call 2 ∷ sending minting 3 mint ∷ []) refl refl refl course_10

-- ---- the server gives one out

abbrev server_9 : Actor
server_9 = after_segment server_9a tells

abbrev mints : Segment
mints = record {
  append = Some (records.OfDir (dir.Mint first_mint));
  memory = memory.OfSite (site 2 ((2, minted) ∷ []));
  frames = minted ∷ [];
  notes = [];
  todo = [];
}

mint_is_answered : verdict for_directory (locked_in records_9) (last_finished records_9) (site 2 []) mint ≡ Answers
unfolding verdict locked_in last_finished
mint_is_answered = ap (λ o. kept_or o Answers) (got [] 2 None refl)

abbrev x11 : Scene
x11 = scene_of s10 16

does_mint : mints ≡ directory.by_verdict x11 server_9 (site 2 []) mint Answers
unfolding next_counter
does_mint = ap (λ s. record mints { memory = memory.OfSite s }) (sym (keeps 2 [] 2 minted))

course_11 : Course x11 (Given mint 5 ∷ []) server_9 (mints ∷ [])
course_11 = (directory_may x11 server_9 1 [] mint 5 mints refl refl refl refl Answers mint_is_answered does_mint, refl)

abbrev pub s11 : Stage
s11 = after_all (landed_stage s10 5) 16 server_9 (mints ∷ [])

pub is_minted : TurnRun (world s10) (turn (event.Give 5) (Sent 6 minted ∷ [])) (world s11)
is_minted = gives s10 5 mint 5 server_9 (mints ∷ []) refl refl refl course_11

-- ---- the proxy forwards the call

abbrev choosing_call : Waiting
choosing_call = creating (root_hold ∷ []) with_id_told 6

abbrev ready_call : Waiting
ready_call = creating (root_hold ∷ file_hold ∷ []) with_id_told 6

abbrev third_request : Request
third_request = record { tag = 3; to = 16; boot = 0; «body» = body.Forward 2 (create_call 3 16) }

abbrev ordering : Waiting
ordering = with_request third_request ready_call

abbrev x12 : Scene
x12 = scene_of s11 0

abbrev proxy_12a : Actor
proxy_12a = after_segment proxy_10 (going choosing_call 3)

abbrev proxy_12b : Actor
proxy_12b = after_segment proxy_12a (going ready_call 3)

abbrev pub proxy_12 : Actor
proxy_12 = after_segment proxy_12b (sending ordering 4 create)

orders : sending ordering 4 create ≡ does_want x12 (with_one no_soft (of []) 3 ready_call 3) 3 ready_call (wants setup (with_one no_soft (of []) 3 ready_call 3) epoch ready_call)
orders =
    asks_one no_soft (of []) 3 ready_call third_request refl
    ∙ sym (
    ap (does_want x12 (with_one no_soft (of []) 3 ready_call 3) 3 ready_call) (wants_create (of ((3, ready_call) ∷ [])))
    ∙ ap (λ text. asks (with_one no_soft (of []) 3 ready_call 3) 3 ready_call (record third_request { «body» = body.Forward 2 text })) is_forwarded)

abbrev forwards : List Segment
forwards = going choosing_call 3 ∷ going ready_call 3 ∷ sending ordering 4 create ∷ []

course_12 : Course x12 (Given minted 6 ∷ []) proxy_10 forwards
course_12 = (
  may_use x12 proxy_10 no_soft (of []) 3 3 minting second_request minted 6 _ refl refl refl refl refl refl refl refl (goes_on_one no_soft (of []) 3 3 minting choosing_call),
  (
    may_go x12 proxy_12a no_soft (of []) 3 3 choosing_call _ refl refl refl (locks_one x12 no_soft (of []) 3 3 choosing_call (file_hold ∷ []) (wants_new_lock (of ((3, choosing_call) ∷ [])))),
    (may_go x12 proxy_12b no_soft (of []) 3 3 ready_call _ refl refl refl orders, refl),
  ),
)

abbrev pub s12 : Stage
s12 = after_all (landed_stage s11 6) 0 proxy_10 forwards

pub is_ordered : TurnRun (world s11) (turn (event.Give 6) (Sent 7 create ∷ [])) (world s12)
is_ordered = gives s11 6 minted 6 proxy_10 forwards refl refl refl course_12

-- ---- the server does it

abbrev pub server_11 : Actor
server_11 = after_segment server_9 mints

abbrev records_11 : List Record
records_11 = records.OfDir (dir.Mint first_mint) ∷ records_9

create_is_answered : verdict for_directory (locked_in records_11) (last_finished records_11) (site 3 []) create ≡ Answers
unfolding verdict locked_in last_finished
create_is_answered = ap (λ o. kept_or o Answers) (got [] 3 None refl)

has_root_still : get (cells_of records_11).objects 1 ≡ Some (root_cell 1)
unfolding cells_of
has_root_still = got_here _ 1 _

no_name_still : get (cells_of records_11).names (1, name) ≡ None
unfolding cells_of
no_name_still = get-empty _ (1, name)

no_file : get (cells_of records_11).objects 2 ≡ None
unfolding cells_of
no_file = got_past _ 1 _ 2 None refl (got_none 2)

abbrev pub does_create : Segment
does_create = record {
  append = Some (records.OfDir (dir.Did did_create));
  memory = memory.OfSite (site 3 ((3, created_packet) ∷ []));
  frames = created_packet ∷ [];
  notes = Did 3 epoch file_two ∷ [];
  todo = [];
}

abbrev x13 : Scene
x13 = scene_of s12 16

-- the segment for this outcome and these changes
abbrev done_with : Outcome → List Change → Segment
done_with o changes =
    let text = answer_to server_asked (with_object (inner_object 16) o.answer) in
    record {
      append = Some (did_record x13 create 2 server_asked changes text);
      memory = memory.OfSite (keeping 3 (record created_packet { «body» = body.Packet text }) (site 3 []));
      frames = record created_packet { «body» = body.Packet text } ∷ [];
      notes = Did 3 epoch file_two ∷ [];
      todo = [];
    }

serves_create : record does_create { memory = memory.OfSite (keeping 3 created_packet (site 3 [])) } ≡ serves x13 (site 3 []) create 2 (cells_of records_11) (Some server_asked)
unfolding u32_text u64_text u32_at u64_at zero_at form_text form_at magic_at internal_of handle_of
serves_create = sym (
    ap
    (λ r. done_with (effect_from (fault (the_create 0)) r) (cell_changes (gathered_of (cells_of records_11)) (the_create 0) (effect_from (fault (the_create 0)) r).changes))
    (has_no_name (cells_of records_11) has_root_still no_name_still)
    ∙ ap (done_with outcome) (changes_cells (cells_of records_11) has_root_still no_file))

does_it : does_create ≡ directory.by_verdict x13 server_11 (site 3 []) create Answers
does_it =
    ap (λ s. record does_create { memory = memory.OfSite s }) (sym (keeps 3 [] 3 created_packet))
    ∙ (serves_create ∙ ap (λ d. serves x13 (site 3 []) create 2 (cells_of records_11) (asked_in d)) (sym server_is_asked))

course_13 : Course x13 (Given create 7 ∷ []) server_11 (does_create ∷ [])
course_13 = (directory_may x13 server_11 2 ((2, minted) ∷ []) create 7 does_create refl refl refl refl Answers create_is_answered does_it, refl)

abbrev pub s13 : Stage
s13 = after_all (landed_stage s12 7) 16 server_11 (does_create ∷ [])

pub is_done : TurnRun (world s12) (turn (event.Give 7) (Sent 8 created_packet ∷ Did 3 epoch file_two ∷ [])) (world s13)
is_done = gives s12 7 create 7 server_11 (does_create ∷ []) refl refl refl course_13

-- ---- the proxy replies

abbrev x14 : Scene
x14 = scene_of s13 0

abbrev pub replies : Segment
replies = notes (with_none no_soft (of []) 4) (Replied 3 8 (create_reply 7 0) ∷ []) (Wakes ∷ [])

abbrev pub resting : Segment
resting = still (with_none no_soft (of []) 4) []

abbrev pub proxy_14a : Actor
proxy_14a = after_segment proxy_12 replies

does_reply : replies ≡ by_packet_if x14 (with_one no_soft (of []) 3 ordering 4) 3 ordering 8 16 (reply_in 8 (create_reply 3 16))
unfolding u32_text u64_text u32_at u64_at zero_at form_text form_at magic_at internal_of
does_reply =
    ends_one no_soft no_soft (of []) 3 4 ordering (Replied 3 8 (create_reply 7 0) ∷ [])
    ∙ sym (
    ap (by_packet_if x14 (with_one no_soft (of []) 3 ordering 4) 3 ordering 8 16) is_read
    ∙ (ap (λ m. ends (with_one no_soft (of []) 3 ordering 4) 3 (record no_soft { dirty = m }) (Replied 3 (done_event x14 3) (create_reply 7 0) ∷ [])) (removed [] 2)
    ∙ ap (λ o. ends (with_one no_soft (of []) 3 ordering 4) 3 no_soft (Replied 3 (unwrap_or o 9) (create_reply 7 0) ∷ [])) (got_one 3 8)))

course_14 : Course x14 (Given created_packet 8 ∷ []) proxy_12 (replies ∷ resting ∷ [])
course_14 = (
  may_use x14 proxy_12 no_soft (of []) 3 4 ordering third_request created_packet 8 _ refl refl refl refl refl refl (ap is_some is_read) refl does_reply,
  (may_rest (later x14 replies) proxy_14a no_soft (of []) 4 refl refl, refl),
)

abbrev pub s14 : Stage
s14 = after_all (landed_stage s13 8) 0 proxy_12 (replies ∷ resting ∷ [])

pub is_replied : TurnRun (world s13) (turn (event.Give 8) (Replied 3 8 (create_reply 7 0) ∷ [])) (world s14)
is_replied = gives s13 8 created_packet 8 proxy_12 (replies ∷ resting ∷ []) refl refl refl course_14

abbrev pub created_run : Run setup created (world s14)
created_run = (world s13, (world s12, (world s11, (world s10, (world s9, (world s8, (world s7, welcomed_run, refl, is_asked), refl, is_told), refl, is_minting), refl, is_minted), refl, is_ordered), refl, is_done), refl, is_replied)

-- ---- after it

abbrev pub proxy_14 : Actor
proxy_14 = after_segment proxy_14a resting

abbrev pub server_13 : Actor
server_13 = after_segment server_11 does_create

pub a_file_is_made : AFileIsMade
a_file_is_made = record {
  world = world s14;
  run = created_run;
  empty = empty_disks;
  proxy = (memory.OfProxy (with_none no_soft (of []) 4), got s14.actors 0 _ refl);
  coordinator = (memory.OfCoord coordinator_idle, got s14.actors 1 _ refl);
  directory = (memory.OfSite (site 3 ((3, created_packet) ∷ [])), got s14.actors 16 _ refl);
  small = (memory.OfStore no_store, got s14.actors 32 _ refl);
  node = (memory.OfStore no_store, got s14.actors 48 _ refl);
}
