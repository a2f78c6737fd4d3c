-- An unstable WRITE: the small-file server buffers it, and the client has its reply.
use Rattle.std.proofs.Common.{◌≡◌, ℕ, ◌+◌, not, ◌&&◌, nat_le, if◌then◌else◌, List, [], ◌∷◌, is_some, Option, Some, None, refl, sym, ap, ◌∙◌, lit<, unwrap_or}
use Rattle.std.specs.Ordering.{nat_cmp}
use Rattle.std.specs.FinMap.{FinMap, get, insert, len, len-empty}
use Rattle.sl_defs.specs.declared.event.Event.TheVariants as event
use Rattle.sl_types.specs.declared.call.Stable.TheVariants as stable
use Rattle.sl_frames.specs.declared.frame.Frame.{Frame}
use Rattle.sl_frames.specs.declared.body.Body.TheVariants as body
use Rattle.sl_cells.specs.declared.keys.CellKey.TheVariants as key
use Rattle.sl_model.specs.Looking.{attributes}
use Rattle.sl_machine.specs.Packets as packets
use Rattle.sl_defs.specs.Items.{u32_text, u64_text, u32_at, u64_at}
use Rattle.sl_defs.specs.Rpc.{zero_at}
use Rattle.sl_types.specs.Handles.{form_text, form_at, magic_at, handle_of, internal_of}
use Rattle.sl_history.specs.Turns.{Remark, Sent, Did, Replied}
use Rattle.sl_history.specs.Arrivals.{asked_in}
use Rattle.sl_machine.specs.Records.{cells_of, locked_in, last_finished, found_object}
use Rattle.sl_machine.specs.Memory.{Request, Waiting, Store, Proxy, Buffered, Dirty, Soft, Actor, nothing_told, no_soft, writes_by, dirty_servers, with_server}
use Rattle.sl_machine.specs.Memory as memory
use Rattle.sl_machine.specs.World.{Scene, Given, Arrives, Goes, Wakes, Segment, quiet, sends, after_segment}
use Rattle.sl_machine.specs.Verdicts.{verdict, Answers, for_directory, for_store, kept_or}
use Rattle.sl_machine.specs.Directories as directory
use Rattle.sl_machine.specs.Stores as store
use Rattle.sl_machine.specs.Proxies.{still, notes, does_want, asks, with_request, by_answer, by_packet_if, ends, ends_write, goes_on, answered, is_full_now, other_boot}
use Rattle.sl_machine.specs.Proxies as proxy
use Rattle.sl_machine.specs.Parts.{object_cell}
use Rattle.sl_machine.specs.Wants.{wants}
use Rattle.sl_machine.specs.Runs.{Run, TurnRun, ByStore, ByProxy}
use Rattle.sl_witness.specs.Histories.{no_fileid, setup, epoch, turn}
use Rattle.sl_witness.proofs.Openings.{no_store, empty_disks}
use Rattle.sl_witness.proofs.Maps.{got_here}
use Rattle.sl_operations.specs.Histories.{new_node, written_node, written_bytes, created_packet, write_call, small_last, ask_file, found_file, write, write_packet, unstable_reply, buffered}
use Rattle.sl_operations.specs.Runs.{created_records, AWriteIsBuffered}
use Rattle.sl_operations.proofs.Maps.{of, got, inserted}
use Rattle.sl_operations.proofs.Stages.{Stage, world, Course, later, scene_of, after_all, begun_stage, landed_stage, gives, calls}
use Rattle.sl_operations.proofs.Beginning.{coordinator_idle, store_opened}
use Rattle.sl_operations.proofs.Singly.{may_use, with_one, with_none, takes_one, locks_one, asks_one, goes_on_one, ends_one, may_go, may_rest}
use Rattle.sl_operations.proofs.Serving.{site, keeps, directory_may, store_of, store_may}
use Rattle.sl_operations.proofs.Creating.{file_hold}
use Rattle.sl_operations.proofs.Creates.{s14, created_run, proxy_14, server_13}
use Rattle.sl_operations.proofs.Writing.{with_file_told, writing}
use Rattle.sl_operations.proofs.Buffering.{unstable_is_asked, server_is_asked, wants_lock, wants_cell, wants_write, is_forwarded, is_read, is_unstable}

-- ---- the call arrives, and the file's cell is asked for

abbrev pub bytes : List ℕ
bytes = write_call 8 0 0

abbrev new_call : Waiting
new_call = writing 0 stable.Unstable [] nothing_told 0

abbrev held_call : Waiting
held_call = writing 0 stable.Unstable (file_hold ∷ []) nothing_told 0

abbrev first_request : Request
first_request = record { tag = 4; to = 16; boot = 0; «body» = body.Ask (key.Attr 2 ∷ []) }

abbrev asking : Waiting
asking = with_request first_request held_call

-- a segment after which this call waits and goes on
abbrev pub going : Waiting → ℕ → Segment
going w tag = still (with_one no_soft (of []) 10 w tag) (Goes 10 ∷ [])

-- this call's request is sent
abbrev pub sending : Waiting → ℕ → Frame → Segment
sending w tag f = sends (memory.OfProxy (with_one no_soft (of []) 10 w tag)) f []

abbrev pub x15 : Scene
x15 = scene_of s14 0

abbrev proxy_15a : Actor
proxy_15a = after_segment proxy_14 (going new_call 4)

abbrev proxy_15b : Actor
proxy_15b = after_segment proxy_15a (going held_call 4)

abbrev proxy_15 : Actor
proxy_15 = after_segment proxy_15b (sending asking 5 ask_file)

asks_file : sending asking 5 ask_file ≡ does_want x15 (with_one no_soft (of []) 10 held_call 4) 10 held_call (wants setup (with_one no_soft (of []) 10 held_call 4) epoch held_call)
asks_file =
    asks_one no_soft (of []) 10 held_call first_request refl
    ∙ sym (ap (does_want x15 (with_one no_soft (of []) 10 held_call 4) 10 held_call) (wants_cell (of []) (of ((10, held_call) ∷ [])) (of []) (got [] 2 None refl)))

abbrev taking : List Segment
taking = going new_call 4 ∷ going held_call 4 ∷ sending asking 5 ask_file ∷ []

pub course_15 : Course x15 (Arrives 10 0 bytes ∷ []) proxy_14 taking
course_15 = (
  ByProxy (with_none no_soft (of []) 4) refl refl (proxy.IsTaken 10 0 bytes refl (record { does = takes_one no_soft (of []) 10 0 4 bytes _ unstable_is_asked })),
  (
    may_go x15 proxy_15a no_soft (of []) 10 4 new_call _ refl refl refl (locks_one x15 no_soft (of []) 10 4 new_call (file_hold ∷ []) (wants_lock (of []) (of ((10, new_call) ∷ [])) (of []))),
    (may_go x15 proxy_15b no_soft (of []) 10 4 held_call _ refl refl refl asks_file, refl),
  ),
)

abbrev pub s15 : Stage
s15 = after_all (begun_stage s14) 0 proxy_14 taking

pub is_asked : TurnRun (world s14) (turn (event.Call 0 bytes) (Sent 9 ask_file ∷ [])) (world s15)
is_asked = calls s14 0 bytes proxy_14 taking refl refl course_15

-- ---- the directory server tells it

abbrev pub tells : Segment
tells = sends (memory.OfSite (site 4 [])) found_file []

file_is_answered : verdict for_directory (locked_in created_records) (last_finished created_records) (site 4 []) ask_file ≡ Answers
unfolding verdict locked_in last_finished
file_is_answered = ap (λ o. kept_or o Answers) (got [] 4 None refl)

has_file : get (cells_of created_records).objects 2 ≡ Some (object_cell new_node [])
unfolding cells_of
has_file = got_here _ 2 _

abbrev pub x16 : Scene
x16 = scene_of s15 16

does_tell : tells ≡ directory.by_verdict x16 server_13 (site 4 []) ask_file Answers
does_tell = sym (ap (λ o. sends (memory.OfSite (site 4 [])) (record found_file { «body» = body.Found (found_object o ∷ []) }) []) has_file)

pub course_16 : Course x16 (Given ask_file 10 ∷ []) server_13 (tells ∷ [])
course_16 = (directory_may x16 server_13 3 ((3, created_packet) ∷ []) ask_file 10 tells refl refl refl refl Answers file_is_answered does_tell, refl)

abbrev pub s16 : Stage
s16 = after_all (landed_stage s15 9) 16 server_13 (tells ∷ [])

pub is_told : TurnRun (world s15) (turn (event.Give 9) (Sent 10 found_file ∷ [])) (world s16)
is_told = gives s15 9 ask_file 10 server_13 (tells ∷ []) refl refl refl course_16

-- ---- the WRITE goes to the small-file server

abbrev knowing_call : Waiting
knowing_call = writing 0 stable.Unstable (file_hold ∷ []) with_file_told 11

abbrev second_request : Request
second_request = record { tag = 5; to = 32; boot = 0; «body» = body.Forward 0 (write_call 5 small_last 0) }

abbrev ordering : Waiting
ordering = with_request second_request knowing_call

abbrev x17 : Scene
x17 = scene_of s16 0

abbrev proxy_17a : Actor
proxy_17a = after_segment proxy_15 (going knowing_call 5)

abbrev proxy_17 : Actor
proxy_17 = after_segment proxy_17a (sending ordering 6 write)

orders : sending ordering 6 write ≡ does_want x17 (with_one no_soft (of []) 10 knowing_call 5) 10 knowing_call (wants setup (with_one no_soft (of []) 10 knowing_call 5) epoch knowing_call)
orders =
    let p = with_one no_soft (of []) 10 knowing_call 5 in
    asks_one no_soft (of []) 10 knowing_call second_request refl
    ∙ sym (
    ap (does_want x17 p 10 knowing_call) (wants_write (of []) (of ((10, knowing_call) ∷ [])) (of []) (got [] 2 None refl) (len-empty nat_cmp Dirty))
    ∙ (ap (λ o. asks p 10 knowing_call (record second_request { boot = unwrap_or o 0; «body» = body.Forward 0 (packets.forwarded_write 32 5 2 knowing_call.asked.call knowing_call.packet) })) (got [] 32 None refl)
    ∙ ap (λ text. asks p 10 knowing_call (record second_request { «body» = body.Forward 0 text })) is_forwarded))

abbrev forwards : List Segment
forwards = going knowing_call 5 ∷ sending ordering 6 write ∷ []

course_17 : Course x17 (Given found_file 11 ∷ []) proxy_15 forwards
course_17 = (
  may_use x17 proxy_15 no_soft (of []) 10 5 asking first_request found_file 11 _ refl refl refl refl refl refl refl refl (goes_on_one no_soft (of []) 10 5 asking knowing_call),
  (may_go x17 proxy_17a no_soft (of []) 10 5 knowing_call _ refl refl refl orders, refl),
)

abbrev pub s17 : Stage
s17 = after_all (landed_stage s16 10) 0 proxy_15 forwards

pub is_ordered : TurnRun (world s16) (turn (event.Give 10) (Sent 11 write ∷ [])) (world s17)
is_ordered = gives s16 10 found_file 11 proxy_15 forwards refl refl refl course_17

-- ---- the server buffers it

abbrev pub the_buffer : List Buffered
the_buffer = record { fileid = 2; write = record { offset = 0; bytes = written_bytes } } ∷ []

abbrev pub buffering : Store
buffering = store_of 5 ((5, write_packet) ∷ []) the_buffer

abbrev renews : Segment
renews = quiet (memory.OfStore (store_of 5 [] [])) (Given write 12 ∷ [])

abbrev buffers : Segment
buffers = sends (memory.OfStore buffering) write_packet []

abbrev store_18a : Actor
store_18a = after_segment store_opened renews

abbrev pub store_18 : Actor
store_18 = after_segment store_18a buffers

abbrev x18 : Scene
x18 = scene_of s17 32

write_is_answered : verdict for_store (locked_in store_18a.records) (last_finished store_18a.records) (site 5 []) write ≡ Answers
unfolding verdict locked_in last_finished
write_is_answered = ap (λ o. kept_or o Answers) (got [] 5 None refl)

does_buffer : buffers ≡ store.by_verdict x18 store_18a (store_of 5 [] []) write Answers
unfolding u32_text u64_text u32_at u64_at zero_at form_text form_at magic_at internal_of handle_of
does_buffer =
    ap (λ s. sends (memory.OfStore (record { site = s; buffered = the_buffer })) write_packet []) (sym (keeps 5 [] 5 write_packet))
    ∙ ap (λ d. store.serves x18 store_18a (store_of 5 [] []) write (asked_in d)) (sym server_is_asked)

course_18 : Course x18 (Given write 12 ∷ []) store_opened (renews ∷ buffers ∷ [])
course_18 = (
  ByStore no_store refl refl (store.IsRenewed write 12 refl (record { greater = lit< tt; does = refl })),
  (store_may x18 store_18a 5 [] [] write 12 buffers refl refl refl refl Answers write_is_answered does_buffer, refl),
)

abbrev pub s18 : Stage
s18 = after_all (landed_stage s17 11) 32 store_opened (renews ∷ buffers ∷ [])

pub is_buffered : TurnRun (world s17) (turn (event.Give 11) (Sent 12 write_packet ∷ [])) (world s18)
is_buffered = gives s17 11 write 12 store_opened (renews ∷ buffers ∷ []) refl refl refl course_18

-- ---- the proxy replies, and has the file's attributes and the server's boot

abbrev pub the_dirt : Dirty
the_dirt = record { attributes = attributes written_node; writes = 1; servers = 32 ∷ [] }

abbrev pub soft_dirty : Soft
soft_dirty = record { clean = []; dirty = of ((2, the_dirt) ∷ []) }

abbrev pub first_boots : FinMap nat_cmp ℕ
first_boots = of ((32, 1) ∷ [])

abbrev x19 : Scene
x19 = scene_of s18 0

abbrev remarks : List Remark
remarks = Did 10 epoch no_fileid ∷ Replied 10 14 unstable_reply ∷ []

abbrev replies : Segment
replies = notes (with_none soft_dirty first_boots 6) remarks (Wakes ∷ [])

abbrev rests : Segment
rests = still (with_none soft_dirty first_boots 6) []

abbrev proxy_19a : Actor
proxy_19a = after_segment proxy_17 replies

abbrev pub proxy_19 : Actor
proxy_19 = after_segment proxy_19a rests

-- the proxy that has learnt the boot
abbrev booted : FinMap nat_cmp ℕ → Proxy
booted boots = with_one no_soft boots 10 ordering 6

-- how the WRITE ends, by the file's unstable writes and the number of files with some
abbrev ended : Option Dirty → ℕ → Segment
ended o files =
    if not (is_some o) && nat_le 1024 files then goes_on (booted (insert (of []) 32 1)) 10 (answered ordering 13 (is_full_now ordering.told))
    else ends (booted (insert (of []) 32 1)) 10 (record no_soft { dirty = insert (of []) 2 (record the_dirt { writes = writes_by o + 1; servers = with_server 32 (dirty_servers o) }) }) remarks

does_reply : replies ≡ by_answer x19 (booted (insert (of []) 32 1)) 10 ordering 13 32 second_request.«body» write_packet.«body»
does_reply =
    ends_one no_soft soft_dirty first_boots 10 6 ordering remarks
    ∙ sym (
    ap (by_packet_if x19 (booted (insert (of []) 32 1)) 10 ordering 13 32) is_read
    ∙ (ap (ends_write x19 (booted (insert (of []) 32 1)) 10 ordering 13 32) is_unstable
    ∙ (ap (λ o. ended o (len (of {X = Dirty} []))) (got [] 2 None refl)
    ∙ (ap (ended None) (len-empty nat_cmp Dirty)
    ∙ (ap (λ m. ends (booted (insert (of []) 32 1)) 10 (record no_soft { dirty = m }) remarks) (inserted [] 2 the_dirt)
    ∙ ap (λ boots. ends (booted boots) 10 soft_dirty remarks) (inserted [] 32 1))))))

course_19 : Course x19 (Given write_packet 13 ∷ []) proxy_17 (replies ∷ rests ∷ [])
course_19 = (
  may_use x19 proxy_17 no_soft (of []) 10 6 ordering second_request write_packet 13 _ refl refl refl refl refl refl (ap is_some is_read) (ap (λ o. other_boot o 1) (got [] 32 None refl)) does_reply,
  (may_rest (later x19 replies) proxy_19a soft_dirty first_boots 6 refl refl, refl),
)

abbrev pub s19 : Stage
s19 = after_all (landed_stage s18 12) 0 proxy_17 (replies ∷ rests ∷ [])

pub is_replied : TurnRun (world s18) (turn (event.Give 12) (Did 10 epoch no_fileid ∷ Replied 10 14 unstable_reply ∷ [])) (world s19)
is_replied = gives s18 12 write_packet 13 proxy_17 (replies ∷ rests ∷ []) refl refl refl course_19

abbrev pub buffered_run : Run setup buffered (world s19)
buffered_run = (world s18, (world s17, (world s16, (world s15, (world s14, created_run, refl, is_asked), refl, is_told), refl, is_ordered), refl, is_buffered), refl, is_replied)

pub a_write_is_buffered : AWriteIsBuffered
a_write_is_buffered = record {
  world = world s19;
  run = buffered_run;
  empty = empty_disks;
  proxy = (memory.OfProxy (with_none soft_dirty first_boots 6), got s19.actors 0 _ refl);
  coordinator = (memory.OfCoord coordinator_idle, got s19.actors 1 _ refl);
  directory = (memory.OfSite (site 4 []), got s19.actors 16 _ refl);
  small = (memory.OfStore buffering, got s19.actors 32 _ refl);
  node = (memory.OfStore no_store, got s19.actors 48 _ refl);
}
