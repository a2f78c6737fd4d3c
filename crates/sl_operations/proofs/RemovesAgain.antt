-- The same REMOVE again, of a file that isn't there any more: the proxy ends it itself.
use Rattle.std.proofs.Common.{◌≡◌, List, [], ◌∷◌, Some, None, refl, sym, ap, ◌∙◌}
use Rattle.std.specs.Cmp.{nat_cmp_total}
use Rattle.std.specs.FinMap.{get}
use Rattle.sl_defs.specs.declared.event.Event.TheVariants as event
use Rattle.sl_types.specs.declared.kind.Status.TheVariants as status
use Rattle.sl_frames.specs.declared.body.Body.TheVariants as body
use Rattle.sl_frames.specs.declared.found.FoundCell.TheVariants as cell
use Rattle.sl_history.specs.Turns.{Remark, Sent, Did, Replied}
use Rattle.sl_machine.specs.Records.{cells_of, locked_in, last_finished}
use Rattle.sl_machine.specs.Records as records
use Rattle.sl_machine.specs.Memory.{Waiting, Actor, no_soft}
use Rattle.sl_machine.specs.Memory as memory
use Rattle.sl_machine.specs.World.{Scene, Given, Arrives, Wakes, Segment, sends, after_segment}
use Rattle.sl_machine.specs.Verdicts.{verdict, Answers, for_directory, kept_or}
use Rattle.sl_machine.specs.Directories as directory
use Rattle.sl_machine.specs.Proxies.{still, notes, does_want}
use Rattle.sl_machine.specs.Proxies as proxy
use Rattle.sl_machine.specs.Parts.{object_cell}
use Rattle.sl_machine.specs.Wants.{wants}
use Rattle.sl_machine.specs.Runs.{Run, TurnRun, ByProxy}
use Rattle.sl_witness.specs.Histories.{setup, epoch, turn, no_fileid}
use Rattle.sl_witness.proofs.Openings.{no_store, empty_disks}
use Rattle.sl_witness.proofs.Maps.{got_here}
use Rattle.sl_operations.specs.Histories.{name, emptied_root, remove_reply, look_up, removed_packet, found_gone, removed_twice}
use Rattle.sl_operations.specs.Runs.{removed_records, AnAbsentFileIsNotRemoved}
use Rattle.sl_operations.proofs.Maps.{of, got}
use Rattle.sl_operations.proofs.Names.{taken_here, taken_past, names_total}
use Rattle.sl_operations.proofs.Stages.{Stage, world, Course, later, scene_of, after_all, begun_stage, landed_stage, gives, calls}
use Rattle.sl_operations.proofs.Beginning.{coordinator_idle}
use Rattle.sl_operations.proofs.Singly.{may_use, with_one, with_none, takes_one, locks_one, asks_one, goes_on_one, ends_one, may_go, may_rest}
use Rattle.sl_operations.proofs.Serving.{site, directory_may}
use Rattle.sl_operations.proofs.Creating.{root_hold}
use Rattle.sl_operations.proofs.Removing.{client_is_asked, with_gone_told, removing, wants_lock, wants_name, wants_answer}
use Rattle.sl_operations.proofs.Removes.{bytes, new_call, held_call, name_request, asking, going, sending, s21, removed_run, proxy_21, server_20}

-- ---- the datagram arrives, and the name is asked for

abbrev x22 : Scene
x22 = scene_of s21 0

abbrev proxy_22a : Actor
proxy_22a = after_segment proxy_21 (going 17 new_call 7)

abbrev proxy_22b : Actor
proxy_22b = after_segment proxy_22a (going 17 held_call 7)

abbrev proxy_22 : Actor
proxy_22 = after_segment proxy_22b (sending 17 (asking 7) 8 (look_up 17 7))

asks_name : sending 17 (asking 7) 8 (look_up 17 7) ≡ does_want x22 (with_one no_soft (of []) 17 held_call 7) 17 held_call (wants setup (with_one no_soft (of []) 17 held_call 7) epoch held_call)
asks_name =
    asks_one no_soft (of []) 17 held_call (name_request 7) refl
    ∙ sym (ap (does_want x22 (with_one no_soft (of []) 17 held_call 7) 17 held_call) (wants_name (of ((17, held_call) ∷ [])) 7))

abbrev takes : List Segment
takes = going 17 new_call 7 ∷ going 17 held_call 7 ∷ sending 17 (asking 7) 8 (look_up 17 7) ∷ []

course_22 : Course x22 (Arrives 17 0 bytes ∷ []) proxy_21 takes
course_22 = (
  ByProxy (with_none no_soft (of []) 7) refl refl (proxy.IsTaken 17 0 bytes refl (record { does = takes_one no_soft (of []) 17 0 7 bytes _ client_is_asked })),
  (
    may_go x22 proxy_22a no_soft (of []) 17 7 new_call _ refl refl refl (locks_one x22 no_soft (of []) 17 7 new_call (root_hold ∷ []) (wants_lock (of ((17, new_call) ∷ [])) 7)),
    (may_go x22 proxy_22b no_soft (of []) 17 7 held_call _ refl refl refl asks_name, refl),
  ),
)

abbrev s22 : Stage
s22 = after_all (begun_stage s21) 0 proxy_21 takes

is_asked : TurnRun (world s21) (turn (event.Call 0 bytes) (Sent 15 (look_up 17 7) ∷ [])) (world s22)
is_asked = calls s21 0 bytes proxy_21 takes refl refl course_22

-- ---- the server tells that it isn't there

abbrev tells : Segment
tells = sends (memory.OfSite (site 7 [])) found_gone []

name_is_answered : verdict for_directory (locked_in removed_records) (last_finished removed_records) (site 7 []) (look_up 17 7) ≡ Answers
unfolding verdict locked_in last_finished
name_is_answered = ap (λ o. kept_or o Answers) (got [] 7 None refl)

has_root : get (cells_of removed_records).objects 1 ≡ Some (object_cell emptied_root [])
unfolding cells_of
has_root = taken_past nat_cmp_total _ 2 1 _ refl (got_here _ 1 _)

has_no_name : get (cells_of removed_records).names (1, name) ≡ None
unfolding cells_of
has_no_name = taken_here names_total _ (1, name) refl

abbrev x23 : Scene
x23 = scene_of s22 16

does_tell : tells ≡ directory.by_verdict x23 server_20 (site 7 []) (look_up 17 7) Answers
does_tell = sym (
    ap (λ o. sends (memory.OfSite (site 7 [])) (record found_gone { «body» = body.Found (records.found_name o ∷ records.found_object (get (cells_of removed_records).objects 1) ∷ []) }) []) has_no_name
    ∙ ap (λ o. sends (memory.OfSite (site 7 [])) (record found_gone { «body» = body.Found (cell.Absent ∷ records.found_object o ∷ []) }) []) has_root)

course_23 : Course x23 (Given (look_up 17 7) 17 ∷ []) server_20 (tells ∷ [])
course_23 = (directory_may x23 server_20 6 ((6, removed_packet) ∷ []) (look_up 17 7) 17 tells refl refl refl refl Answers name_is_answered does_tell, refl)

abbrev s23 : Stage
s23 = after_all (landed_stage s22 15) 16 server_20 (tells ∷ [])

is_told : TurnRun (world s22) (turn (event.Give 15) (Sent 16 found_gone ∷ [])) (world s23)
is_told = gives s22 15 (look_up 17 7) 17 server_20 (tells ∷ []) refl refl refl course_23

-- ---- the call takes effect at the proxy, which replies

abbrev knowing_call : Waiting
knowing_call = removing (root_hold ∷ []) with_gone_told 18

abbrev x24 : Scene
x24 = scene_of s23 0

abbrev remarks : List Remark
remarks = Did 17 epoch no_fileid ∷ Replied 17 19 (remove_reply 8 status.NoEnt) ∷ []

abbrev replies : Segment
replies = notes (with_none no_soft (of []) 8) remarks (Wakes ∷ [])

abbrev rests : Segment
rests = still (with_none no_soft (of []) 8) []

abbrev proxy_24a : Actor
proxy_24a = after_segment proxy_22 (going 17 knowing_call 8)

abbrev proxy_24b : Actor
proxy_24b = after_segment proxy_24a replies

does_reply : replies ≡ does_want x24 (with_one no_soft (of []) 17 knowing_call 8) 17 knowing_call (wants setup (with_one no_soft (of []) 17 knowing_call 8) epoch knowing_call)
does_reply =
    ends_one no_soft no_soft (of []) 17 8 knowing_call remarks
    ∙ sym (ap (does_want x24 (with_one no_soft (of []) 17 knowing_call 8) 17 knowing_call) (wants_answer (of ((17, knowing_call) ∷ []))))

abbrev answers : List Segment
answers = going 17 knowing_call 8 ∷ replies ∷ rests ∷ []

course_24 : Course x24 (Given found_gone 18 ∷ []) proxy_22 answers
course_24 = (
  may_use x24 proxy_22 no_soft (of []) 17 8 (asking 7) (name_request 7) found_gone 18 _ refl refl refl refl refl refl refl refl (goes_on_one no_soft (of []) 17 8 (asking 7) knowing_call),
  (
    may_go x24 proxy_24a no_soft (of []) 17 8 knowing_call _ refl refl refl does_reply,
    (may_rest (later x24 replies) proxy_24b no_soft (of []) 8 refl refl, refl),
  ),
)

abbrev s24 : Stage
s24 = after_all (landed_stage s23 16) 0 proxy_22 answers

is_replied : TurnRun (world s23) (turn (event.Give 16) (Did 17 epoch no_fileid ∷ Replied 17 19 (remove_reply 8 status.NoEnt) ∷ [])) (world s24)
is_replied = gives s23 16 found_gone 18 proxy_22 answers refl refl refl course_24

abbrev removed_twice_run : Run setup removed_twice (world s24)
removed_twice_run = (world s23, (world s22, (world s21, removed_run, refl, is_asked), refl, is_told), refl, is_replied)

pub an_absent_file_is_not_removed : AnAbsentFileIsNotRemoved
an_absent_file_is_not_removed = record {
  world = world s24;
  run = removed_twice_run;
  empty = empty_disks;
  proxy = (memory.OfProxy (with_none no_soft (of []) 8), got s24.actors 0 _ refl);
  coordinator = (memory.OfCoord coordinator_idle, got s24.actors 1 _ refl);
  directory = (memory.OfSite (site 7 []), got s24.actors 16 _ refl);
  small = (memory.OfStore no_store, got s24.actors 32 _ refl);
  node = (memory.OfStore no_store, got s24.actors 48 _ refl);
}
