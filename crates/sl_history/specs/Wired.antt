-- A history is wired where its frames and servers play the parts that they are there for: answers follow their requests,
-- what servers tell is what lies with them, and an effect comes from those on whose disks it stands.
use Rattle.std.specs.Prelude.{◌≡◌, ◌≢◌, ℕ, ◌+◌, ◌==◌, List, [], ◌∷◌, ◌++◌, Option, Some, None, Bool, true, false, not, ◌&&◌, ◌||◌, nat_lt, length, filter, map, Ok, if◌then◌else◌, ◌⊎◌, option_map, option_and_then}
use Rattle.std.specs.Option.{unwrap_or}
use Rattle.std.specs.FinMap as map
use Rattle.sl_defs.specs.Histories.{Happening, Opens, Happens}
use Rattle.sl_defs.specs.declared.event.Event.TheVariants as event
use Rattle.sl_defs.specs.declared.setup.Setup.{Setup}
use Rattle.sl_defs.specs.declared.note.Choice.{Choice}
use Rattle.sl_types.specs.declared.call.Call.{Call}
use Rattle.sl_types.specs.declared.call.Call.TheVariants as call
use Rattle.sl_types.specs.declared.handle.InternalHandle.{InternalHandle}
use Rattle.sl_types.specs.Handles.{handle_of, internal_of}
use Rattle.sl_types.specs.declared.reply.Reply.{Reply}
use Rattle.sl_types.specs.declared.reply.Reply.TheVariants as reply
use Rattle.sl_replies.specs.Reading.{reply_of}
use Rattle.sl_edit.specs.Spans.{results_in}
use Rattle.sl_model.specs.declared.node.Node.{Node}
use Rattle.sl_model.specs.declared.node.Entry.{Entry}
use Rattle.sl_model.specs.declared.node.Listed.{Listed}
use Rattle.sl_model.specs.Plan.{Key, NodeKey, NameKey}
use Rattle.sl_model.specs.Volume.{Volume, is_dir, is_reg, listed}
use Rattle.sl_model.specs.Gathered.{is_unstable}
use Rattle.sl_model.specs.Looking.{attributes, line_size}
use Rattle.sl_policy.specs.Sites.{site_of, object_site}
use Rattle.sl_cells.specs.declared.cells.AttrCell.{AttrCell}
use Rattle.sl_cells.specs.declared.cells.NameCell.{NameCell}
use Rattle.sl_cells.specs.declared.keys.CellKey.{CellKey}
use Rattle.sl_cells.specs.declared.keys.CellKey.TheVariants as key
use Rattle.sl_frames.specs.Actors.{is_proxy, is_coordinator, is_directory}
use Rattle.sl_frames.specs.declared.found.FoundCell.{FoundCell}
use Rattle.sl_frames.specs.declared.found.FoundCell.TheVariants as found
use Rattle.sl_frames.specs.declared.frame.Frame.{Frame}
use Rattle.sl_frames.specs.declared.body.Body.{Body}
use Rattle.sl_frames.specs.declared.body.Body.TheVariants as body
use Rattle.sl_history.specs.Bodies.{is_hello, is_welcome, is_packet, is_found, is_listed, is_minted, is_decided, is_grant, is_refuse, is_ack}
use Rattle.sl_history.specs.Turns.{Remark, Sent, Did, Flush, Replied, Turn, History, so_far}
use Rattle.sl_history.specs.Frames.{is_up, frame, event_of_sending, named_number, given_number, in_flight, WasGiven}
use Rattle.sl_history.specs.Arrivals.{Asked, asked, datagram, asked_in, fileid_of}
use Rattle.sl_history.specs.Volumes.{volume_after, after_note}
use Rattle.sl_history.specs.Licensed.{request, reaches}
use Rattle.sl_history.specs.Placing.{object_server, name_server, byte_server, key_server}

-- ---- who sends

abbrev pub is_receiver : ℕ → Option Frame → Bool
is_receiver a None = false
is_receiver a (Some f) = f.to == a

-- The event is one of this actor: a frame is given to it while it is up, or it starts.
abbrev pub acts : History → Happening → ℕ → Bool
acts past (Happens (event.Start b)) a = a == b && not (is_up past a)
acts past (Happens (event.Give k)) a = is_receiver a (frame past k) && is_up past a
acts past (Happens (event.Copy k)) a = is_receiver a (frame past k) && is_up past a
acts past other a = false

-- A frame is sent by an actor whose event it is, at a datagram by the proxy, at a tick by the proxy and the coordinator, while
-- they are up. At the opening only the proxy sends: its Hello.
abbrev pub may_send : History → Happening → Frame → Bool
may_send past (Opens setup) f = is_proxy f.from && is_hello f.body
may_send past (Happens (event.Call client bytes)) f = is_proxy f.from && is_up past f.from
may_send past (Happens event.Tick) f = (is_proxy f.from || is_coordinator f.from) && is_up past f.from
may_send past other f = acts past other f.from

-- ---- answers

-- the second is a kind of answer to the first
abbrev pub fits : Body → Body → Bool
fits body.Hello answer = is_welcome answer
fits (body.Forward chosen packet) answer = is_packet answer || is_refuse answer
fits (body.Ask keys) answer = is_found answer
fits (body.List dir cookie limit) answer = is_listed answer
fits (body.Mint site) answer = is_minted answer
fits (body.Intent i) answer = is_decided answer
fits (body.Lock work) answer = is_grant answer || is_refuse answer
fits body.Apply answer = is_ack answer
fits body.Release answer = is_ack answer
fits other answer = false

-- an answer, of whatever kind
abbrev pub is_answer : Body → Bool
is_answer body.Welcome = true
is_answer (body.Packet packet) = true
is_answer (body.Found cells) = true
is_answer (body.Listed cells more) = true
is_answer (body.Minted fileid) = true
is_answer (body.Decided done) = true
is_answer body.Grant = true
is_answer body.Refuse = true
is_answer body.Ack = true
is_answer other = false

-- the second frame answers the first: by fence and tag, or by the operation
pub record Answers (asking answer : Frame) : Type 0 where
  pub kind : fits asking.body answer.body ≡ true
  pub sender : answer.from ≡ asking.to
  pub receiver : answer.to ≡ asking.from
  pub fence : answer.fence ≡ asking.fence
  pub tag : answer.tag ≡ asking.tag
  pub op : answer.op ≡ asking.op

-- the sender of an answer was given what it answers
pub record IsAnswer (h : History) (f : Frame) : Type 0 where
  pub asking : Frame
  pub given : WasGiven h asking
  pub answers : Answers asking f

-- ---- no attributes of a file with unstable writes are asked for

abbrev pub getattr_file : Option InternalHandle → Option ℕ
getattr_file None = None
getattr_file (Some i) = if is_reg i.handle.kind then Some i.handle.fileid else None

abbrev pub getattr_by : Call → Option ℕ
getattr_by (call.Getattr object) = getattr_file (internal_of object)
getattr_by other = None

abbrev pub getattr_of : Option Asked → Option ℕ
getattr_of None = None
getattr_of (Some a) = getattr_by a.call

abbrev pub looked_at : Body → Option ℕ
looked_at (body.Forward chosen packet) = getattr_of (asked_in (datagram packet))
looked_at other = None

abbrev pub is_quiet : Volume → Option ℕ → Bool
is_quiet v None = true
is_quiet v (Some f) = not (is_unstable f v.unstable)

-- ---- what is sent

-- how many frames were sent
abbrev pub sent_among : List Remark → ℕ
sent_among [] = 0
sent_among (Sent k f ∷ rs) = 1 + sent_among rs
sent_among (r ∷ rs) = sent_among rs

unfoldable pub frames : History → ℕ
frames [] = 0
frames (t ∷ past) = frames past + sent_among t.remarks

pub record IsSent (start : Volume) (past : History) (t : Turn) (h : History) (k : ℕ) (f : Frame) : Type 0 where
  -- frames are numbered from 1 on
  pub number : k ≡ frames h + 1
  pub sender : may_send past t.happening f ≡ true
  pub answer : is_answer f.body ≡ true → IsAnswer h f
  pub quiet : is_quiet (volume_after start h) (looked_at f.body) ≡ true

-- ---- reads and writes of bytes

-- the results that a packet has, read as those of a READ
abbrev pub read_bytes : Option Reply → Option (List ℕ)
read_bytes (Some (reply.Read (Ok r))) = Some r.bytes
read_bytes other = None

abbrev pub results_of : ℕ → List ℕ → Option Reply
results_of procedure packet = option_and_then (reply_of procedure) (results_in packet)

-- The proxy is given a Packet of this server now.
pub record IsServedBy (past : History) (t : Turn) (server : ℕ) (packet : List ℕ) : Type 0 where
  pub answer : Frame
  pub given : reaches past t ≡ Some answer
  pub receiver : is_proxy answer.to ≡ true
  pub sender : answer.from ≡ server
  pub gives : answer.body ≡ body.Packet packet

abbrev pub given_event : History → Happening → Option ℕ
given_event past x = option_and_then (event_of_sending past) (given_number x)

-- The proxy is given the answer to the request of event n's call, by the server of this byte.
pub record IsPacketFor (setup : Setup) (past : History) (t : Turn) (n f offset : ℕ) : Type 0 where
  pub packet : List ℕ
  pub served : IsServedBy past t (byte_server setup f offset) packet
  pub asking : Frame
  pub is : request past served.answer.fence served.answer.tag ≡ Some asking
  pub arrival : asking.arrival ≡ n

-- The bytes of a READ come from the server of its offset, in an answer that was sent in event e.
pub record IsRead (setup : Setup) (past : History) (t : Turn) (n e f offset : ℕ) (bytes : List ℕ) : Type 0 where
  pub answer : IsPacketFor setup past t n f offset
  pub sent : given_event past t.happening ≡ Some e
  pub same : read_bytes (results_of 6 answer.packet) ≡ Some bytes

abbrev pub IsReadIf : Setup → History → Turn → ℕ → ℕ → Call → Option (List ℕ) → Type 0
IsReadIf setup past t n e (call.Read file offset count) (Some bytes) = IsRead setup past t n e (fileid_of (handle_of file)) offset bytes
IsReadIf setup past t n e other read = Unit {0}

abbrev pub IsWiredReply : Setup → History → Turn → ℕ → ℕ → List ℕ → Option Asked → Type 0
IsWiredReply setup past t n e bytes None = Unit {0}
IsWiredReply setup past t n e bytes (Some a) = IsReadIf setup past t n e a.call (read_bytes (results_of a.procedure bytes))

-- ---- where an effect stands

-- the volumes differ in this cell: the node and the link's text, or the name
abbrev pub Differs : Volume → Volume → Key → Type 0
Differs v w (NodeKey f) = (map.get v.nodes f ≢ map.get w.nodes f) ⊎ (map.get v.texts f ≢ map.get w.texts f)
Differs v w (NameKey d name) = map.get v.names (d, name) ≢ map.get w.names (d, name)

-- and in this stable byte, where what was never written is zero
abbrev pub DiffersAt : Volume → Volume → ℕ → ℕ → Type 0
DiffersAt v w f at = unwrap_or (map.get v.written (f, at)) 0 ≢ unwrap_or (map.get w.written (f, at)) 0

-- all cells and bytes that differ lie with this server
pub record LiesWith (setup : Setup) (v w : Volume) (server : ℕ) : Type 0 where
  pub cells : (k : Key) → Differs v w k → key_server setup k ≡ server
  pub bytes : (f at : ℕ) → DiffersAt v w f at → byte_server setup f at ≡ server

-- the server granted this operation, and the coordinator was given that
pub record HasGranted (h : History) (op server : ℕ) : Type 0 where
  pub grant : Frame
  pub given : WasGiven h grant
  pub kind : grant.body ≡ body.Grant
  pub receiver : is_coordinator grant.to ≡ true
  pub sender : grant.from ≡ server
  pub operation : grant.op ≡ op

-- the operation that a frame grants
abbrev pub operation_in : Frame → Body → Option ℕ
operation_in f body.Grant = Some f.op
operation_in f other = None

abbrev pub granted_by : Option Frame → Option ℕ
granted_by None = None
granted_by (Some f) = operation_in f f.body

-- each server of a cell or byte that differs granted one operation: the one whose Grant is given now, where one is
pub record IsGranted (setup : Setup) (past : History) (t : Turn) (h : History) (v w : Volume) : Type 0 where
  pub op : ℕ
  pub now : (granted : ℕ) → granted_by (reaches past t) ≡ Some granted → op ≡ granted
  pub cells : (k : Key) → Differs v w k → HasGranted h op (key_server setup k)
  pub bytes : (f at : ℕ) → DiffersAt v w f at → HasGranted h op (byte_server setup f at)

-- An effect over several servers is noted by the coordinator, and each of them granted it. Any other is noted by the one
-- directory server where all of it lies.
abbrev pub StandsRightly : Setup → History → Turn → History → Volume → Volume → Type 0
StandsRightly setup past t h v w =
    ((acts past t.happening 1 ≡ true) × IsGranted setup past t h v w)
    ⊎ ((server : ℕ) × (is_directory server ≡ true) × (acts past t.happening server ≡ true) × LiesWith setup v w server)

-- ---- effects and flushes

-- Each effect that changes something: an unstable WRITE by its server's answer, all else where it stands.
abbrev pub IsWiredEffect : Setup → History → Turn → History → Volume → Volume → ℕ → Bool → Call → Type 0
IsWiredEffect setup past t h v w n false (call.Write file offset count stability bytes) = IsPacketFor setup past t n (fileid_of (handle_of file)) offset
IsWiredEffect setup past t h v w n kept other = StandsRightly setup past t h v w

-- a new object's fileid is of the site that the policy gives its directory, name and kind
pub record IsOfSite (setup : Setup) (v w : Volume) (f : ℕ) : Type 0 where
  pub right :
      (n : Node) (d : ℕ) (name : List ℕ) (e : Entry) → map.get v.nodes f ≡ None → map.get w.nodes f ≡ Some n → map.get w.names (d, name) ≡ Some e → e.fileid ≡ f
      → site_of f ≡ object_site setup.policy d name (is_dir n.kind)

pub record IsWiredDid (setup : Setup) (past : History) (t : Turn) (h : History) (v w : Volume) (n : ℕ) (choice : Choice) (a : Asked) : Type 0 where
  pub stands : v ≢ w → IsWiredEffect setup past t h v w n choice.kept a.call
  pub site : IsOfSite setup v w choice.fileid

abbrev pub IsWiredDidIf : Setup → History → Turn → History → Volume → Volume → ℕ → Choice → Option Asked → Type 0
IsWiredDidIf setup past t h v w n choice None = Unit {0}
IsWiredDidIf setup past t h v w n choice (Some a) = IsWiredDid setup past t h v w n choice a

-- a flush is noted by the coordinator
pub record IsWiredFlush (setup : Setup) (past : History) (t : Turn) (h : History) (v w : Volume) : Type 0 where
  pub coordinator : acts past t.happening 1 ≡ true
  pub granted : IsGranted setup past t h v w

-- ---- the notes of a turn

abbrev pub MayNote : Setup → Volume → History → Turn → History → Remark → Type 0
MayNote setup start past t h (Sent k f) = IsSent start past t h k f
MayNote setup start past t h (Replied n e bytes) = IsWiredReply setup past t n e bytes (asked h n)
MayNote setup start past t h (Did n at choice) =
    IsWiredDidIf setup past t (t ∷ past) (volume_after start h) (after_note h (Did n at choice) (volume_after start h)) n choice (asked h n)
MayNote setup start past t h (Flush f) =
    IsWiredFlush setup past t (t ∷ past) (volume_after start h) (after_note h (Flush f) (volume_after start h))
MayNote setup start past t h other = Unit {0}

abbrev pub AllMayBeNoted : Setup → Volume → Turn → History → List Remark → List Remark → Type 0
AllMayBeNoted setup start t past before [] = Unit {0}
AllMayBeNoted setup start t past before (r ∷ rs) =
    MayNote setup start past t (so_far t before ∷ past) r × AllMayBeNoted setup start t past (before ++ r ∷ []) rs

-- ---- what servers tell, judged at the end of the event that sends it

-- the cell of an object, and of a name
abbrev pub attr_cell : Volume → ℕ → Node → AttrCell
attr_cell v f n = record {
  attributes = attributes n;
  parent = n.parent;
  entries = n.entries;
  made = n.made;
  verifier = n.verifier;
  link = unwrap_or (map.get v.texts f) [];
}

abbrev pub name_cell : ℕ → List ℕ → Entry → NameCell
name_cell d name e = record { dir = d; name = name; fileid = e.fileid; kind = e.kind; cookie = e.cookie }

abbrev pub found_attr : Option AttrCell → FoundCell
found_attr None = found.Absent
found_attr (Some c) = found.Attr c

abbrev pub found_name : Option NameCell → FoundCell
found_name None = found.Absent
found_name (Some c) = found.Name c

-- what the stable volume has for a key
abbrev pub cell_of : Volume → CellKey → FoundCell
cell_of v (key.Attr f) = found_attr (option_map (attr_cell v f) (map.get v.nodes f))
cell_of v (key.Name d name) = found_name (option_map (name_cell d name) (map.get v.names (d, name)))

abbrev pub place_of : Setup → CellKey → ℕ
place_of s (key.Attr f) = object_server s f
place_of s (key.Name d name) = name_server s d name

-- for each key that lies with the server, what the volume has
abbrev pub AreCells : Setup → Volume → ℕ → List CellKey → List FoundCell → Type 0
AreCells setup v server [] [] = Unit {0}
AreCells setup v server (k ∷ ks) (c ∷ cs) = (place_of setup k ≡ server → c ≡ cell_of v k) × AreCells setup v server ks cs
AreCells setup v server ks cs = ⊥

-- the names of a directory behind a cookie that lie with a server, by rising cookie
abbrev pub lies_with : Setup → ℕ → ℕ → Listed → Bool
lies_with setup d server x = name_server setup d x.name == server

abbrev pub names_with : Setup → Volume → ℕ → ℕ → ℕ → List Listed
names_with setup v server d cookie = filter (lies_with setup d server) (listed d cookie [] (map.entries v.names))

-- the shortest front whose lines in a READDIR are together above the limit, or all
abbrev pub up_to : ℕ → ℕ → List Listed → List Listed
up_to limit size [] = []
up_to limit size (x ∷ xs) = x ∷ (if nat_lt limit (size + line_size 24 x) then [] else up_to limit (size + line_size 24 x) xs)

abbrev pub line_cell : ℕ → Listed → NameCell
line_cell d x = record { dir = d; name = x.name; fileid = x.fileid; kind = x.kind; cookie = x.cookie }

pub record AreNames (setup : Setup) (v : Volume) (server d cookie limit : ℕ) (cells : List NameCell) (more : Bool) : Type 0 where
  pub front : cells ≡ map (line_cell d) (up_to limit 0 (names_with setup v server d cookie))
  pub rest : more ≡ nat_lt (length cells) (length (names_with setup v server d cookie))

abbrev pub AreCellsIf : Setup → Volume → ℕ → List CellKey → Body → Type 0
AreCellsIf setup v server keys (body.Found cells) = AreCells setup v server keys cells
AreCellsIf setup v server keys other = Unit {0}

abbrev pub AreNamesIf : Setup → Volume → ℕ → ℕ → ℕ → ℕ → Body → Type 0
AreNamesIf setup v server d cookie limit (body.Listed cells more) = AreNames setup v server d cookie limit cells more
AreNamesIf setup v server d cookie limit other = Unit {0}

-- what a server tells of its cells and names is so
abbrev pub IsTrueAnswer : Setup → Volume → ℕ → Body → Body → Type 0
IsTrueAnswer setup v server (body.Ask keys) answer = AreCellsIf setup v server keys answer
IsTrueAnswer setup v server (body.List d cookie limit) answer = AreNamesIf setup v server d cookie limit answer
IsTrueAnswer setup v server other answer = Unit {0}

abbrev pub IsTrueIf : Setup → Volume → Frame → Option Frame → Type 0
IsTrueIf setup v f None = Unit {0}
IsTrueIf setup v f (Some asking) = IsTrueAnswer setup v f.from asking.body f.body

abbrev pub AreTrue : Setup → Volume → History → List Remark → Type 0
AreTrue setup v h [] = Unit {0}
AreTrue setup v h (Sent k f ∷ rs) = IsTrueIf setup v f (request h f.fence f.tag) × AreTrue setup v h rs
AreTrue setup v h (r ∷ rs) = AreTrue setup v h rs

-- a frame is given, copied or lost only while it is in flight
abbrev pub IsFlying : History → Option ℕ → Type 0
IsFlying past None = Unit {0}
IsFlying past (Some k) = in_flight past k ≡ true

-- A turn is wired after this past.
pub record IsWiredTurn (setup : Setup) (start : Volume) (past : History) (t : Turn) : Type 0 where
  pub flying : IsFlying past (named_number t.happening)
  pub may : AllMayBeNoted setup start t past [] t.remarks
  pub told : AreTrue setup (volume_after start (t ∷ past)) (t ∷ past) t.remarks

abbrev pub Wired : Setup → Volume → History → Type 0
Wired setup start [] = Unit {0}
Wired setup start (t ∷ past) = Wired setup start past × IsWiredTurn setup start past t
