-- Histories of a volume with one server of each class.
use Rattle.std.specs.Prelude.{ℕ, List, [], ◌∷◌, ◌++◌, Some, None, false, Ok}
pub use Rattle.sl_examples.specs.Histories.{setup, epoch, turn, fence, greeting, opening, opened, greeted, welcomed}
use Rattle.sl_defs.specs.Items.{u32_text}
use Rattle.sl_defs.specs.Rpc.{accepted_text}
use Rattle.sl_defs.specs.declared.event.Event.TheVariants as event
use Rattle.sl_defs.specs.declared.note.Choice.{Choice}
use Rattle.sl_types.specs.declared.kind.Kind.TheVariants as kind
use Rattle.sl_types.specs.declared.kind.Status.TheVariants as status
use Rattle.sl_types.specs.declared.attributes.Sattr.{Sattr}
use Rattle.sl_types.specs.declared.attributes.SetTime.TheVariants as set
use Rattle.sl_items.specs.Spelling.{sattr_text}
use Rattle.sl_cells.specs.declared.keys.CellKey.TheVariants as key
use Rattle.sl_frames.specs.declared.found.FoundCell.TheVariants as cell
use Rattle.sl_model.specs.declared.node.Node.{Node}
use Rattle.sl_model.specs.Changing.{set_attributes}
use Rattle.sl_machine.specs.Records.{root_cell}
use Rattle.sl_types.specs.declared.handle.Handle.{Handle}
use Rattle.sl_types.specs.Handles.{form_text}
use Rattle.sl_types.specs.declared.reply.Reply.{Reply}
use Rattle.sl_types.specs.declared.reply.Reply.TheVariants as reply
use Rattle.sl_replies.specs.Texts.{reply_text}
use Rattle.sl_model.specs.Looking.{attributes, wcc_of}
use Rattle.sl_model.specs.Perform.{new_root}
use Rattle.sl_frames.specs.declared.frame.Frame.{Frame}
use Rattle.sl_frames.specs.declared.body.Body.{Body}
use Rattle.sl_frames.specs.declared.body.Body.TheVariants as body
use Rattle.sl_history.specs.Turns.{Sent, Did, Replied, Down, History}

-- the Hello is lost, and sent again at a tick
abbrev pub lost : History
lost = turn event.Tick (Sent 2 (greeting 0 1 body.Hello) ∷ []) ∷ turn (event.Drop 1) [] ∷ opened

-- the proxy stops, and is opened again: the Hello of its second start has a greater fence
abbrev pub second_fence : ℕ
second_fence = 8589934592

abbrev pub restarted : History
restarted = turn (event.Start 0) (Sent 2 (record (greeting 0 1 body.Hello) { fence = second_fence }) ∷ []) ∷ turn (event.Stop 0 0) [] ∷ opened

-- ---- calls

-- a call of version 3 of NFS by nobody, with this xid and these arguments
abbrev pub call_of : ℕ → ℕ → List ℕ → List ℕ
call_of xid procedure args =
    u32_text xid ++ (u32_text 0 ++ (u32_text 2 ++ (u32_text 100003 ++ (u32_text 3 ++ (u32_text procedure ++ (u32_text 0 ++ (u32_text 0 ++ (u32_text 0 ++ (u32_text 0 ++ args)))))))))

abbrev pub null_call : List ℕ
null_call = call_of 7 0 []

abbrev pub null_reply : List ℕ
null_reply = accepted_text 7 0

-- NULL is answered before the Welcome too
abbrev pub answered : History
answered = turn (event.Call 0 null_call) (Replied 1 1 null_reply ∷ []) ∷ opened

-- ---- GETATTR of the root

abbrev pub root : Handle
root = record { volume = 1; fileid = 1; kind = kind.Dir }

-- The root's handle ends in four zero bytes, and among the servers in the site and the actor.
abbrev pub root_handle : ℕ → List ℕ
root_handle last = form_text root last

abbrev pub root_call : ℕ → ℕ → List ℕ
root_call xid last = call_of xid 1 (u32_text 32 ++ root_handle last)

abbrev pub root_answer : Reply
root_answer = reply.Getattr (Ok (attributes (new_root 1)))

abbrev pub root_reply : ℕ → List ℕ
root_reply xid = accepted_text xid 0 ++ reply_text root_answer

-- the call goes to the directory server under tag 1, and its answer comes back
abbrev pub forward : Frame
forward = record { from = 0; to = 16; fence = fence; tag = 1; low = 1; op = 0; boot = 0; arrival = 3; «body» = body.Forward 0 (root_call 1 16) }

abbrev pub packet : Frame
packet = record { from = 16; to = 0; fence = fence; tag = 1; low = 0; op = 0; boot = 0; arrival = 0; «body» = body.Packet (root_reply 1) }

abbrev pub forwarded : History
forwarded = turn (event.Call 0 (root_call 7 0)) (Sent 3 forward ∷ []) ∷ welcomed

abbrev pub looked : History
looked = turn (event.Give 3) (Sent 4 packet ∷ []) ∷ forwarded

abbrev pub replied : History
replied = turn (event.Give 4) (Replied 3 4 (root_reply 7) ∷ []) ∷ looked

-- ---- SETATTR of the root: its mode

abbrev pub new_mode : Sattr
new_mode = record { mode = Some 448; uid = None; gid = None; size = None; atime = set.Keep; mtime = set.Keep }

abbrev pub change_call : ℕ → ℕ → List ℕ
change_call xid last = call_of xid 2 (u32_text 32 ++ (root_handle last ++ (sattr_text new_mode ++ u32_text 0)))

abbrev pub changed_root : Node
changed_root = set_attributes (new_root 1) new_mode epoch

abbrev pub change_answer : Reply
change_answer = reply.Setattr status.Ok (wcc_of changed_root)

abbrev pub change_reply : ℕ → List ℕ
change_reply xid = accepted_text xid 0 ++ reply_text change_answer

-- a request to the directory server, and its answer
abbrev pub request : ℕ → Body → Frame
request tag b = record { from = 0; to = 16; fence = fence; tag = tag; low = tag; op = 0; boot = 0; arrival = 3; «body» = b }

abbrev pub answer : ℕ → Body → Frame
answer tag b = record { from = 16; to = 0; fence = fence; tag = tag; low = 0; op = 0; boot = 0; arrival = 0; «body» = b }

abbrev pub ask : Frame
ask = request 1 (body.Ask (key.Attr 1 ∷ []))

abbrev pub found : Frame
found = answer 1 (body.Found (cell.Attr (root_cell 1) ∷ []))

abbrev pub change : Frame
change = request 2 (body.Forward 0 (change_call 2 16))

abbrev pub done : Frame
done = answer 2 (body.Packet (change_reply 2))

abbrev pub no_fileid : Choice
no_fileid = record { fileid = 0; kept = false }

-- the proxy asks for the root's cell first, and then the server does the call alone
abbrev pub asked : History
asked = turn (event.Call 0 (change_call 7 0)) (Sent 3 ask ∷ []) ∷ welcomed

abbrev pub told : History
told = turn (event.Give 4) (Sent 5 change ∷ []) ∷ turn (event.Give 3) (Sent 4 found ∷ []) ∷ asked

abbrev pub changed : History
changed = turn (event.Give 6) (Replied 3 6 (change_reply 7) ∷ []) ∷ turn (event.Give 5) (Sent 6 done ∷ Did 3 epoch no_fileid ∷ []) ∷ told

-- the append of its record is cut, and the record is there when the server is opened again: the effect is noted then
abbrev pub cut : History
cut = turn (event.Start 16) (Did 3 epoch no_fileid ∷ []) ∷ turn (event.Give 5) (Down 16 ∷ []) ∷ told

-- the request is sent again, and has the answer that is kept
abbrev pub answered_again : History
answered_again =
    turn (event.Give 7) (Replied 3 7 (change_reply 7) ∷ []) ∷ turn (event.Give 6) (Sent 7 done ∷ []) ∷ turn event.Tick (Sent 6 change ∷ []) ∷ cut

-- the record isn't there, and the call is done when its request is sent again
abbrev pub done_anew : History
done_anew =
    turn (event.Give 7) (Replied 3 9 (change_reply 7) ∷ []) ∷ turn (event.Give 6) (Sent 7 done ∷ Did 3 epoch no_fileid ∷ []) ∷
    turn event.Tick (Sent 6 change ∷ []) ∷ turn (event.Start 16) [] ∷ turn (event.Give 5) (Down 16 ∷ []) ∷ told
