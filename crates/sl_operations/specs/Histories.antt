-- Histories of operations on several servers, of a volume with one server of each class.
use Rattle.std.specs.Prelude.{ℕ, ◌+◌, ◌*◌, ◌^◌, List, [], ◌∷◌, ◌++◌, Bool, Some, true, false, Ok}
use Rattle.sl_defs.specs.Items.{u32_text, u64_text}
use Rattle.sl_defs.specs.Rpc.{accepted_text}
use Rattle.sl_defs.specs.declared.event.Event.TheVariants as event
use Rattle.sl_defs.specs.declared.note.Choice.{Choice}
use Rattle.sl_types.specs.declared.call.CreateHow.TheVariants as how
use Rattle.sl_types.specs.declared.call.Stable.TheVariants as stable
use Rattle.sl_types.specs.declared.kind.Kind.TheVariants as kind
use Rattle.sl_types.specs.declared.kind.Status.{Status}
use Rattle.sl_types.specs.declared.kind.Status.TheVariants as status
use Rattle.sl_types.specs.declared.handle.Handle.{Handle}
use Rattle.sl_types.specs.declared.reply.Reply.{Reply}
use Rattle.sl_types.specs.declared.reply.Reply.TheVariants as reply
use Rattle.sl_types.specs.Handles.{form_text}
use Rattle.sl_rpc.specs.Heads.{nobody}
use Rattle.sl_items.specs.Spelling.{sattr_text}
use Rattle.sl_replies.specs.Texts.{reply_text}
use Rattle.sl_cells.specs.declared.keys.CellKey.TheVariants as key
use Rattle.sl_cells.specs.declared.cells.NameCell.{NameCell}
use Rattle.sl_cells.specs.declared.changes.Change.{Change}
use Rattle.sl_cells.specs.declared.changes.Change.TheVariants as change
use Rattle.sl_frames.specs.declared.found.FoundCell.TheVariants as cell
use Rattle.sl_frames.specs.declared.work.Work.{Work}
use Rattle.sl_frames.specs.declared.work.Work.TheVariants as work
use Rattle.sl_frames.specs.declared.intent.What.TheVariants as what
use Rattle.sl_frames.specs.declared.intent.Part.{Part}
use Rattle.sl_frames.specs.declared.intent.Intent.{Intent}
use Rattle.sl_frames.specs.declared.frame.Frame.{Frame}
use Rattle.sl_frames.specs.declared.body.Body.{Body}
use Rattle.sl_frames.specs.declared.body.Body.TheVariants as body
use Rattle.sl_model.specs.declared.node.Node.{Node}
use Rattle.sl_model.specs.Volume.{written_to}
use Rattle.sl_model.specs.Looking.{attributes, no_wcc, wcc_of}
use Rattle.sl_model.specs.Changing.{with_name, without_name, new_file, nothing_given, made, wrote, cookie_in, entry_to}
use Rattle.sl_model.specs.Perform.{new_root}
use Rattle.sl_history.specs.Turns.{Sent, Did, Replied, Flush, Verf, Down, History}
use Rattle.sl_history.specs.Wired.{name_cell}
use Rattle.sl_machine.specs.Records.{root_cell}
use Rattle.sl_machine.specs.Parts.{object_cell}
use Rattle.sl_machine.specs.Packets as packets
use Rattle.sl_witness.specs.Histories.{epoch, fence, turn, greeting, welcomed, call_of, root_handle, no_fileid}

-- ---- frames

-- a request of the call of an event, of which it is the only one out, and its answer
abbrev pub request : ℕ → ℕ → ℕ → Body → Frame
request arrival to tag b = record { from = 0; to = to; fence = fence; tag = tag; low = tag; op = 0; boot = 0; arrival = arrival; «body» = b }

abbrev pub answer : ℕ → ℕ → ℕ → Body → Frame
answer from boot tag b = record { from = from; to = 0; fence = fence; tag = tag; low = 0; op = 0; boot = boot; arrival = 0; «body» = b }

-- ---- CREATE of the file `a` in the root

abbrev pub name : List ℕ
name = 97 ∷ []

abbrev pub create_call : ℕ → ℕ → List ℕ
create_call xid last = call_of xid 8 (u32_text 32 ++ (root_handle last ++ (u32_text 1 ++ (97 ∷ 0 ∷ 0 ∷ 0 ∷ u32_text 0 ++ sattr_text nothing_given))))

abbrev pub full_root : Node
full_root = with_name (new_root 1) kind.Reg epoch

abbrev pub new_node : Node
new_node = new_file (how.Unchecked nothing_given) nobody (new_root 1) epoch 2

abbrev pub file : Handle
file = record { volume = 1; fileid = 2; kind = kind.Reg }

-- the file's handle ends in four zero bytes, and among the servers in the site and the actor
abbrev pub file_handle : ℕ → List ℕ
file_handle last = form_text file last

abbrev pub create_answer : ℕ → Reply
create_answer last = reply.Create (Ok (record (made new_node) { object = Some (file_handle last) }))

abbrev pub create_reply : ℕ → ℕ → List ℕ
create_reply xid last = accepted_text xid 0 ++ reply_text (create_answer last)

abbrev pub new_name : NameCell
new_name = name_cell 1 name (entry_to new_node (cookie_in (new_root 1)))

-- the cells of the root, of the name and of the file
abbrev pub new_cells : List Change
new_cells = change.PutAttr (object_cell full_root []) ∷ change.PutName new_name ∷ change.PutAttr (object_cell new_node []) ∷ []

abbrev pub ask_name : Frame
ask_name = request 3 16 1 (body.Ask (key.Name 1 name ∷ key.Attr 1 ∷ []))

abbrev pub found_none : Frame
found_none = answer 16 0 1 (body.Found (cell.Absent ∷ cell.Attr (root_cell 1) ∷ []))

abbrev pub mint : Frame
mint = request 3 16 2 (body.Mint 0)

abbrev pub minted : Frame
minted = answer 16 0 2 (body.Minted 2)

abbrev pub create : Frame
create = request 3 16 3 (body.Forward 2 (create_call 3 16))

abbrev pub created_packet : Frame
created_packet = answer 16 0 3 (body.Packet (create_reply 3 16))

abbrev pub file_two : Choice
file_two = record { fileid = 2; kept = false }

-- the name is asked for, then a fileid, and the directory server does the call
abbrev pub name_asked : History
name_asked = turn (event.Call 0 (create_call 7 0)) (Sent 3 ask_name ∷ []) ∷ welcomed

abbrev pub name_told : History
name_told = turn (event.Give 3) (Sent 4 found_none ∷ []) ∷ name_asked

abbrev pub id_asked : History
id_asked = turn (event.Give 4) (Sent 5 mint ∷ []) ∷ name_told

abbrev pub id_told : History
id_told = turn (event.Give 5) (Sent 6 minted ∷ []) ∷ id_asked

abbrev pub create_asked : History
create_asked = turn (event.Give 6) (Sent 7 create ∷ []) ∷ id_told

abbrev pub file_made : History
file_made = turn (event.Give 7) (Sent 8 created_packet ∷ Did 3 epoch file_two ∷ []) ∷ create_asked

abbrev pub created : History
created = turn (event.Give 8) (Replied 3 8 (create_reply 7 0) ∷ []) ∷ file_made

-- ---- REMOVE of the file, and the same datagram again

abbrev pub remove_call : ℕ → ℕ → List ℕ
remove_call xid last = call_of xid 12 (u32_text 32 ++ (root_handle last ++ (u32_text 1 ++ (97 ∷ 0 ∷ 0 ∷ 0 ∷ []))))

abbrev pub remove_reply : ℕ → Status → List ℕ
remove_reply xid s = accepted_text xid 0 ++ reply_text (reply.Remove s no_wcc)

abbrev pub emptied_root : Node
emptied_root = without_name full_root kind.Reg epoch

-- the root's cell changes, and those of the name and of the file go
abbrev pub gone_cells : List Change
gone_cells = change.PutAttr (object_cell emptied_root []) ∷ change.TakeName 1 name ∷ change.TakeAttr 2 ∷ []

abbrev pub look_up : ℕ → ℕ → Frame
look_up arrival tag = request arrival 16 tag (body.Ask (key.Name 1 name ∷ key.Attr 1 ∷ []))

abbrev pub found_name : Frame
found_name = answer 16 0 4 (body.Found (cell.Name new_name ∷ cell.Attr (object_cell full_root []) ∷ []))

abbrev pub ask_named : Frame
ask_named = request 10 16 5 (body.Ask (key.Attr 2 ∷ []))

abbrev pub found_named : Frame
found_named = answer 16 0 5 (body.Found (cell.Attr (object_cell new_node []) ∷ []))

abbrev pub remove : Frame
remove = request 10 16 6 (body.Forward 0 (remove_call 6 16))

abbrev pub removed_packet : Frame
removed_packet = answer 16 0 6 (body.Packet (remove_reply 6 status.Ok))

-- the name is asked for, then the file that it leads to, and the directory server does the call
abbrev pub remove_asked : History
remove_asked = turn (event.Call 0 (remove_call 8 0)) (Sent 9 (look_up 10 4) ∷ []) ∷ created

abbrev pub named_asked : History
named_asked = turn (event.Give 10) (Sent 11 ask_named ∷ []) ∷ turn (event.Give 9) (Sent 10 found_name ∷ []) ∷ remove_asked

abbrev pub remove_ordered : History
remove_ordered = turn (event.Give 12) (Sent 13 remove ∷ []) ∷ turn (event.Give 11) (Sent 12 found_named ∷ []) ∷ named_asked

abbrev pub file_removed : History
file_removed = turn (event.Give 13) (Sent 14 removed_packet ∷ Did 10 epoch no_fileid ∷ []) ∷ remove_ordered

abbrev pub removed : History
removed = turn (event.Give 14) (Replied 10 15 (remove_reply 8 status.Ok) ∷ []) ∷ file_removed

abbrev pub found_gone : Frame
found_gone = answer 16 0 7 (body.Found (cell.Absent ∷ cell.Attr (object_cell emptied_root []) ∷ []))

-- the name is asked for again, and isn't there: the call changes nothing, and takes effect at the proxy
abbrev pub gone_asked : History
gone_asked = turn (event.Give 15) (Sent 16 found_gone ∷ []) ∷ turn (event.Call 0 (remove_call 8 0)) (Sent 15 (look_up 17 7) ∷ []) ∷ removed

abbrev pub removed_twice : History
removed_twice = turn (event.Give 16) (Did 17 epoch no_fileid ∷ Replied 17 19 (remove_reply 8 status.NoEnt) ∷ []) ∷ gone_asked

-- ---- WRITE of two bytes to the file

abbrev pub written_bytes : List ℕ
written_bytes = 104 ∷ 105 ∷ []

-- the number says how stable
abbrev pub write_call : ℕ → ℕ → ℕ → List ℕ
write_call xid last stability =
    call_of xid 7 (u32_text 32 ++ (file_handle last ++ (u64_text 0 ++ (u32_text 2 ++ (u32_text stability ++ (u32_text 2 ++ (104 ∷ 105 ∷ 0 ∷ 0 ∷ [])))))))

abbrev pub written_node : Node
written_node = written_to 2 epoch new_node

abbrev pub ask_file : Frame
ask_file = request 10 16 4 (body.Ask (key.Attr 2 ∷ []))

abbrev pub found_file : Frame
found_file = answer 16 0 4 (body.Found (cell.Attr (object_cell new_node []) ∷ []))

-- the file's cell is asked for
abbrev pub write_told : ℕ → History
write_told stability = turn (event.Give 9) (Sent 10 found_file ∷ []) ∷ turn (event.Call 0 (write_call 8 0 stability)) (Sent 9 ask_file ∷ []) ∷ created

-- ---- a stable WRITE: the directory server changes the attributes, and the small-file server puts the bytes

abbrev pub write_answer : Reply
write_answer = wrote written_node 2 stable.FileSync fence

abbrev pub write_reply : List ℕ
write_reply = accepted_text 8 0 ++ reply_text write_answer

abbrev pub part : ℕ → Work → Part
part server w = record { actor = server; boot = 0; work = w }

abbrev pub new_attributes : Work
new_attributes = work.Change (change.SetFattr (attributes written_node) ∷ [])

abbrev pub new_bytes : Work
new_bytes = work.Put 2 0 written_bytes

abbrev pub the_intent : Intent
the_intent = record { moment = epoch; what = what.Call 0 true; parts = part 16 new_attributes ∷ part 32 new_bytes ∷ [] }

abbrev pub intent : Frame
intent = request 10 1 5 (body.Intent the_intent)

-- a frame of the first operation, between the coordinator and a server
abbrev pub of_operation : ℕ → ℕ → ℕ → Body → Frame
of_operation from to boot b = record { from = from; to = to; fence = fence; tag = 0; low = 0; op = 1; boot = boot; arrival = 0; «body» = b }

abbrev pub lock : ℕ → Work → Frame
lock server w = of_operation 1 server 0 (body.Lock w)

abbrev pub grant : ℕ → ℕ → Frame
grant server boot = of_operation server 1 boot body.Grant

abbrev pub apply : ℕ → Frame
apply server = of_operation 1 server 0 body.Apply

abbrev pub ack : ℕ → ℕ → Frame
ack server boot = of_operation server 1 boot body.Ack

abbrev pub decided : Frame
decided = answer 1 0 5 (body.Decided true)

abbrev pub kept_write : Choice
kept_write = record { fileid = 0; kept = true }

-- the intent goes to the coordinator, which asks both servers for their Locks
abbrev pub intended : History
intended = turn (event.Give 10) (Sent 11 intent ∷ []) ∷ write_told 2

abbrev pub started : History
started = turn (event.Give 11) (Sent 12 (lock 16 new_attributes) ∷ Sent 13 (lock 32 new_bytes) ∷ []) ∷ intended

abbrev pub granted : History
granted = turn (event.Give 13) (Sent 15 (grant 32 1) ∷ []) ∷ turn (event.Give 12) (Sent 14 (grant 16 0) ∷ []) ∷ started

-- the last Grant decides
abbrev pub agreed : History
agreed =
    turn (event.Give 15) (Sent 16 decided ∷ Sent 17 (apply 16) ∷ Sent 18 (apply 32) ∷ Did 10 epoch kept_write ∷ []) ∷
    turn (event.Give 14) [] ∷ granted

abbrev pub replied : History
replied = turn (event.Give 16) (Replied 10 17 write_reply ∷ []) ∷ agreed

abbrev pub applied : History
applied = turn (event.Give 18) (Sent 20 (ack 32 1) ∷ []) ∷ turn (event.Give 17) (Sent 19 (ack 16 0) ∷ []) ∷ replied

abbrev pub finished : History
finished = turn (event.Give 20) [] ∷ turn (event.Give 19) [] ∷ applied

-- ---- the append of the Finish is cut at the directory server

-- the small-file server does its work, and the directory server is opened again
abbrev pub cut_finish : History
cut_finish =
    turn (event.Start 16) [] ∷ turn (event.Give 19) [] ∷ turn (event.Give 18) (Sent 19 (ack 32 1) ∷ []) ∷ turn (event.Give 17) (Down 16 ∷ []) ∷
    replied

-- its Apply is sent again, and acknowledged
abbrev pub finish_again : History
finish_again = turn (event.Give 21) [] ∷ turn (event.Give 20) (Sent 21 (ack 16 0) ∷ []) ∷ turn event.Tick (Sent 20 (apply 16) ∷ []) ∷ []

-- ---- an unstable WRITE: the small-file server buffers it

-- among the servers a handle that goes to a small-file server tells the site of the byte that the call begins with
abbrev pub small_last : ℕ
small_last = 2 * 2 ^ 16 + 32

abbrev pub write : Frame
write = request 10 32 5 (body.Forward 0 (write_call 5 small_last 0))

-- what the small-file server answers, which has no attributes
abbrev pub write_packet : Frame
write_packet = answer 32 1 5 (body.Packet (accepted_text 5 0 ++ reply_text (packets.write_reply 2)))

abbrev pub unstable_answer : Reply
unstable_answer = wrote written_node 2 stable.Unstable fence

abbrev pub unstable_reply : List ℕ
unstable_reply = accepted_text 8 0 ++ reply_text unstable_answer

abbrev pub write_asked : History
write_asked = turn (event.Give 10) (Sent 11 write ∷ []) ∷ write_told 0

-- it takes effect when the server has answered
abbrev pub buffered : History
buffered =
    turn (event.Give 12) (Did 10 epoch no_fileid ∷ Replied 10 14 unstable_reply ∷ []) ∷ turn (event.Give 11) (Sent 12 write_packet ∷ []) ∷ write_asked

-- ---- COMMIT of the file: a flush, on the directory server and the small-file server

abbrev pub commit_call : ℕ → ℕ → List ℕ
commit_call xid last = call_of xid 21 (u32_text 32 ++ (file_handle last ++ (u64_text 0 ++ u32_text 0)))

abbrev pub commit_answer : Reply
commit_answer = reply.Commit (Ok (record { wcc = wcc_of written_node; verifier = fence }))

abbrev pub commit_reply : List ℕ
commit_reply = accepted_text 9 0 ++ reply_text commit_answer

-- the proxy relies on the small-file server's boot
abbrev pub keep : Work
keep = work.Keep 2 []

-- the Lock's record has what was buffered
abbrev pub kept_bytes : Work
kept_bytes = work.Keep 2 (record { offset = 0; bytes = written_bytes } ∷ [])

abbrev pub the_flush : Intent
the_flush = record { moment = epoch; what = what.Flush 2; parts = part 16 new_attributes ∷ record (part 32 keep) { boot = 1 } ∷ [] }

-- for the COMMIT of an event
abbrev pub flush : ℕ → Frame
flush arrival = request arrival 1 6 (body.Intent the_flush)

abbrev pub flush_decided : Bool → Frame
flush_decided agreed = answer 1 0 6 (body.Decided agreed)

abbrev pub lock_buffered : Frame
lock_buffered = of_operation 1 32 1 (body.Lock keep)

abbrev pub flush_asked : History
flush_asked = turn (event.Call 0 (commit_call 9 0)) (Sent 13 (flush 15) ∷ []) ∷ buffered

abbrev pub flush_started : History
flush_started = turn (event.Give 13) (Sent 14 (lock 16 new_attributes) ∷ Sent 15 lock_buffered ∷ []) ∷ flush_asked

abbrev pub flush_granted : History
flush_granted = turn (event.Give 15) (Sent 17 (grant 32 1) ∷ []) ∷ turn (event.Give 14) (Sent 16 (grant 16 0) ∷ []) ∷ flush_started

abbrev pub flush_agreed : History
flush_agreed =
    turn (event.Give 17) (Sent 18 (flush_decided true) ∷ Sent 19 (apply 16) ∷ Sent 20 (apply 32) ∷ Flush 2 ∷ []) ∷ turn (event.Give 16) [] ∷ flush_granted

-- the reply has the attributes that the proxy has itself
abbrev pub committed : History
committed = turn (event.Give 18) (Replied 15 21 commit_reply ∷ []) ∷ flush_agreed

abbrev pub flushed : History
flushed =
    turn (event.Give 22) [] ∷ turn (event.Give 21) [] ∷ turn (event.Give 20) (Sent 22 (ack 32 1) ∷ []) ∷ turn (event.Give 19) (Sent 21 (ack 16 0) ∷ []) ∷
    committed

-- ---- the small-file server stops before the COMMIT, and has forgotten the bytes

abbrev pub next_fence : ℕ
next_fence = fence + 1

abbrev pub stopped : History
stopped = turn (event.Start 32) [] ∷ turn (event.Stop 32 0) [] ∷ buffered

abbrev pub lost_asked : History
lost_asked =
    turn (event.Give 13) (Sent 14 (lock 16 new_attributes) ∷ Sent 15 lock_buffered ∷ []) ∷ turn (event.Call 0 (commit_call 9 0)) (Sent 13 (flush 17) ∷ []) ∷
    stopped

abbrev pub refuse : Frame
refuse = of_operation 32 1 2 body.Refuse

abbrev pub release : ℕ → Frame
release server = of_operation 1 server 0 body.Release

abbrev pub next_hello : Frame
next_hello = record (greeting 0 1 body.Hello) { fence = next_fence }

abbrev pub next_welcome : Frame
next_welcome = record (greeting 1 0 body.Welcome) { fence = next_fence }

-- it relies on the first boot, so that the server refuses the Lock, and the operation is decided against
abbrev pub refused : History
refused =
    turn (event.Give 16) (Sent 17 (flush_decided false) ∷ Sent 18 (release 16) ∷ Sent 19 (release 32) ∷ []) ∷ turn (event.Give 15) (Sent 16 refuse ∷ []) ∷ lost_asked

-- the proxy forgets all and takes its next fence, which the coordinator can't welcome yet
abbrev pub renewed : History
renewed = turn (event.Give 20) [] ∷ turn (event.Give 17) (Sent 20 next_hello ∷ []) ∷ refused

-- the Lock of the directory server comes late, and is released
abbrev pub released : History
released =
    turn (event.Give 19) (Sent 23 (ack 32 2) ∷ []) ∷ turn (event.Give 18) (Sent 22 (ack 16 0) ∷ []) ∷ turn (event.Give 14) (Sent 21 (grant 16 0) ∷ []) ∷ renewed

-- the last acknowledgement ends the operation, and then the proxy is welcomed
abbrev pub welcomed_again : History
welcomed_again =
    turn (event.Give 24) (Verf next_fence ∷ []) ∷ turn (event.Give 23) (Sent 24 next_welcome ∷ []) ∷ turn (event.Give 22) [] ∷ turn (event.Give 21) [] ∷
    released

-- ---- the append of the decision is cut at the coordinator

-- the record is there when the coordinator is opened again: the effect is noted then
abbrev pub cut_decision : History
cut_decision = turn (event.Start 1) (Did 10 epoch kept_write ∷ []) ∷ turn (event.Give 15) (Down 1 ∷ []) ∷ turn (event.Give 14) [] ∷ granted

-- the intent is sent again, and has the answer that is kept; the reply names the event of the opening
abbrev pub decided_again : History
decided_again =
    turn (event.Give 19) (Replied 10 18 write_reply ∷ []) ∷ turn (event.Give 16) (Sent 19 decided ∷ []) ∷
    turn event.Tick (Sent 16 intent ∷ Sent 17 (apply 16) ∷ Sent 18 (apply 32) ∷ []) ∷ cut_decision

abbrev pub decision_finished : History
decision_finished =
    turn (event.Give 21) [] ∷ turn (event.Give 20) [] ∷ turn (event.Give 18) (Sent 21 (ack 32 1) ∷ []) ∷ turn (event.Give 17) (Sent 20 (ack 16 0) ∷ []) ∷
    decided_again

-- the record isn't there: the coordinator waits until it has heard the proxy, and asks for the Locks again
abbrev pub lost_decision : History
lost_decision =
    turn event.Tick (Sent 17 intent ∷ Sent 18 (lock 16 new_attributes) ∷ Sent 19 (lock 32 new_bytes) ∷ []) ∷ turn (event.Give 16) [] ∷
    turn event.Tick (Sent 16 intent ∷ []) ∷ turn (event.Start 1) [] ∷ turn (event.Give 15) (Down 1 ∷ []) ∷ turn (event.Give 14) [] ∷ granted

-- both servers are locked for it already, and grant it again
abbrev pub decided_anew : History
decided_anew =
    turn (event.Give 22) (Replied 10 25 write_reply ∷ []) ∷
    turn (event.Give 21) (Sent 22 decided ∷ Sent 23 (apply 16) ∷ Sent 24 (apply 32) ∷ Did 10 epoch kept_write ∷ []) ∷ turn (event.Give 20) [] ∷
    turn (event.Give 19) (Sent 21 (grant 32 1) ∷ []) ∷ turn (event.Give 18) (Sent 20 (grant 16 0) ∷ []) ∷ lost_decision

abbrev pub anew_finished : History
anew_finished =
    turn (event.Give 26) [] ∷ turn (event.Give 25) [] ∷ turn (event.Give 24) (Sent 26 (ack 32 1) ∷ []) ∷ turn (event.Give 23) (Sent 25 (ack 16 0) ∷ []) ∷
    decided_anew

-- ---- the append of the Lock is cut at the directory server

-- the small-file server grants, and the directory server is opened again
abbrev pub cut_lock : History
cut_lock =
    turn (event.Start 16) [] ∷ turn (event.Give 14) [] ∷ turn (event.Give 13) (Sent 14 (grant 32 1) ∷ []) ∷ turn (event.Give 12) (Down 16 ∷ []) ∷ started

-- intent and Lock are sent again; the intent is started already
abbrev pub lock_again : History
lock_again =
    turn (event.Give 22) [] ∷ turn (event.Give 21) [] ∷ turn (event.Give 20) (Sent 22 (ack 32 1) ∷ []) ∷ turn (event.Give 19) (Sent 21 (ack 16 0) ∷ []) ∷
    turn (event.Give 18) (Replied 10 21 write_reply ∷ []) ∷
    turn (event.Give 17) (Sent 18 decided ∷ Sent 19 (apply 16) ∷ Sent 20 (apply 32) ∷ Did 10 epoch kept_write ∷ []) ∷
    turn (event.Give 16) (Sent 17 (grant 16 0) ∷ []) ∷ turn (event.Give 15) [] ∷
    turn event.Tick (Sent 15 intent ∷ Sent 16 (lock 16 new_attributes) ∷ []) ∷ []
