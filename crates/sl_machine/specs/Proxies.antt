-- What the proxy does, a row for each case. It keeps no record but of its starts, and what it holds may be lost.
use Rattle.std.specs.Prelude.{◌≡◌, ℕ, ◌+◌, ◌^◌, ◌==◌, ◌<◌, List, [], ◌∷◌, ◌++◌, Option, Some, None, Bool, true, false, not, ◌&&◌, ◌||◌, nat_le, length, is_some, if◌then◌else◌, Ok}
use Rattle.std.specs.Option.{unwrap_or}
use Rattle.std.specs.Ordering.{nat_cmp}
use Rattle.std.specs.FinMap.{FinMap}
use Rattle.std.specs.FinMap as map
use Rattle.sl_defs.specs.declared.setup.Time.{Time}
use Rattle.sl_defs.specs.declared.note.Choice.{Choice}
use Rattle.sl_types.specs.declared.attributes.Fattr.{Fattr}
use Rattle.sl_types.specs.declared.call.Call.{Call}
use Rattle.sl_types.specs.declared.call.Call.TheVariants as call
use Rattle.sl_types.specs.declared.reply.Reply.{Reply}
use Rattle.sl_types.specs.declared.reply.Reply.TheVariants as reply
use Rattle.sl_model.specs.Volume.{is_reg}
use Rattle.sl_model.specs.Changing.{is_unstable}
use Rattle.sl_model.specs.Looking.{Outcome}
use Rattle.sl_model.specs.Plan.{Key}
use Rattle.sl_cells.specs.declared.keys.CellKey.{CellKey}
use Rattle.sl_cells.specs.declared.keys.CellKey.TheVariants as key
use Rattle.sl_records.specs.declared.proxy.ProxyRecord.TheVariants as start
use Rattle.sl_frames.specs.Actors.{is_data}
use Rattle.sl_frames.specs.declared.found.FoundCell.{FoundCell}
use Rattle.sl_frames.specs.declared.found.FoundCell.TheVariants as found
use Rattle.sl_frames.specs.declared.intent.Intent.{Intent}
use Rattle.sl_frames.specs.declared.intent.What.{What}
use Rattle.sl_frames.specs.declared.intent.What.TheVariants as what
use Rattle.sl_frames.specs.declared.intent.Part.{Part}
use Rattle.sl_frames.specs.declared.frame.Frame.{Frame}
use Rattle.sl_frames.specs.declared.body.Body.{Body}
use Rattle.sl_frames.specs.declared.body.Body.TheVariants as body
use Rattle.sl_history.specs.Bodies.{is_welcome, is_refuse}
use Rattle.sl_history.specs.Turns.{Remark}
use Rattle.sl_history.specs.Turns as note
use Rattle.sl_history.specs.Arrivals.{Asked, Datagram, IsJunk, IsAnswered, IsAsked, datagram, answer_to, is_changing, most_waiting}
use Rattle.sl_history.specs.Legal.{no_choice}
use Rattle.sl_history.specs.Wired.{fits}
use Rattle.sl_history.specs.Remembering.{attributes_in}
use Rattle.sl_machine.specs.Records.{OfProxy, starts_of, first_fence, is_last_epoch}
use Rattle.sl_machine.specs.Memory.{Hold, ServerNames, Told, Request, Waiting, Soft, Proxy, Memory, Actor, OfProxy, nothing_told, no_soft, soft_of, is_dirty, learnt, touched, gone, flushed, written, are_free, low_of, with_tag}
use Rattle.sl_machine.specs.Memory as memory
use Rattle.sl_machine.specs.World.{Scene, Task, Given, Arrives, Goes, Wakes, Ticks, Segment, quiet, sends}
use Rattle.sl_machine.specs.Knowing.{effect, known, cell_key}
use Rattle.sl_machine.specs.Calls.{sought}
use Rattle.sl_machine.specs.Parts.{flush_parts}
use Rattle.sl_machine.specs.Wants.{Want, Lock, Recall, FlushFirst, AskFor, ListFrom, MintAt, ForwardLook, ForwardRead, ForwardWrite, ForwardEffect, Operate, Answer, Ending, Mark, AtAnswer, AtOnce, knowing, effect_with, wants, most_dirty}
use Rattle.sl_machine.specs.Packets.{forwarded, forwarded_read, forwarded_write, with_object, outer_object, reply_in}
use Rattle.sl_history.specs.Placing.{carrier}
use Rattle.sl_route.specs.declared.class.Class.TheVariants as class

-- ---- words

abbrev pub still : Proxy → List Task → Segment
still p todo = quiet (memory.OfProxy p) todo

abbrev pub notes : Proxy → List Remark → List Task → Segment
notes p rs todo = record { append = None; memory = memory.OfProxy p; frames = []; notes = rs; todo = todo }

-- a proxy of a new fence has forgotten all
abbrev pub fresh : ℕ → Proxy
fresh fence = record { fence = fence; welcomed = false; pending = map.empty; soft = no_soft; boots = map.empty; next_tag = 1 }

abbrev pub hello : ℕ → Frame
hello fence = record { from = 0; to = 1; fence = fence; tag = 0; low = 0; op = 0; boot = 0; arrival = 0; «body» = body.Hello }

abbrev pub with_call : ℕ → Waiting → Proxy → Proxy
with_call n w p = record p { pending = map.insert p.pending n w }

-- ---- its opening: it counts its starts

pub record Opens (a : Actor) (seg : Segment) : Type 0 where
  pub unspent : starts_of a.records + 1 < 2 ^ 32
  pub does :
      seg ≡ record {
        append = Some (OfProxy (start.Start (starts_of a.records + 1)));
        memory = memory.OfProxy (fresh (first_fence (starts_of a.records + 1)));
        frames = hello (first_fence (starts_of a.records + 1)) ∷ [];
        notes = [];
        todo = [];
      }

-- ---- a datagram arrives

abbrev pub waiting_for : ℕ → List ℕ → Asked → Waiting
waiting_for client bytes a = record { client = client; packet = bytes; asked = a; held = []; awaits = []; request = None; told = nothing_told; answered = 0 }

abbrev pub takes : Proxy → ℕ → ℕ → List ℕ → Asked → Segment
takes p n client bytes a =
    if not p.welcomed then notes p (note.Early n ∷ []) []
    else if nat_le most_waiting (map.len p.pending) then notes p (note.Full n ∷ []) []
    else still (with_call n (waiting_for client bytes a) p) (Goes n ∷ [])

abbrev pub arrives : Proxy → ℕ → ℕ → List ℕ → Datagram → Segment
arrives p n client bytes IsJunk = notes p (note.Junk n ∷ []) []
arrives p n client bytes (IsAnswered answer) = notes p (note.Replied n n answer ∷ []) []
arrives p n client bytes (IsAsked a) = takes p n client bytes a

pub record Takes (p : Proxy) (n client : ℕ) (bytes : List ℕ) (seg : Segment) : Type 0 where
  pub does : seg ≡ arrives p n client bytes (datagram bytes)

-- ---- a request is sent, with a new tag

abbrev pub with_request : Request → Waiting → Waiting
with_request r w = record w { request = Some r }

abbrev pub tagged : Proxy → ℕ → Waiting → Request → Proxy
tagged p n w r = record p { pending = map.insert p.pending n (with_request r w); next_tag = p.next_tag + 1 }

-- the frame of a request, with the least tag that is waited for
abbrev pub request_frame : Proxy → ℕ → Request → Frame
request_frame p n r = record { from = 0; to = r.to; fence = p.fence; tag = r.tag; low = low_of p; op = 0; boot = r.boot; arrival = n; «body» = r.«body» }

abbrev pub asks : Proxy → ℕ → Waiting → Request → Segment
asks p n w r = sends (memory.OfProxy (tagged p n w r)) (request_frame (tagged p n w r) n r) []

abbrev pub request : Proxy → ℕ → ℕ → Body → Request
request p to boot b = record { tag = p.next_tag; to = to; boot = boot; «body» = b }

-- the boot of a data server that the proxy knows, 0 for none
abbrev pub boot_of : Proxy → ℕ → ℕ
boot_of p server = unwrap_or (map.get p.boots server) 0

abbrev pub cell_keys : List Key → List CellKey
cell_keys [] = []
cell_keys (k ∷ ks) = cell_key k ∷ cell_keys ks

abbrev pub intent_of : Time → What → List Part → Body
intent_of now w parts = body.Intent (record { moment = now; what = w; parts = parts })

abbrev pub flush_of : Scene → Proxy → ℕ → Option memory.Dirty → Body
flush_of x p f None = intent_of x.moment (what.Flush f) []
flush_of x p f (Some d) = intent_of x.moment (what.Flush f) (flush_parts x.setup p.boots f d)

-- ---- the end of a call

abbrev pub without_call : ℕ → Proxy → Proxy
without_call n p = record p { pending = map.remove p.pending n }

abbrev pub ends : Proxy → ℕ → Soft → List Remark → Segment
ends p n soft rs = notes (record (without_call n p) { soft = soft }) rs (Wakes ∷ [])

-- a reply that gives a regular file's attributes teaches them
abbrev pub learns_from : Option Fattr → Soft → Soft
learns_from None s = s
learns_from (Some a) s = if is_reg a.kind then learnt a s else s

abbrev pub learns : Reply → Soft → Soft
learns r s = learns_from (attributes_in r) s

-- a call that may have changed its files alone forgets their attributes
abbrev pub forgets : List Hold → Soft → Soft
forgets [] s = s
forgets (h ∷ hs) s = if h.key.dir then forgets hs s else forgets hs (gone h.key.fileid s)

abbrev pub stays_unstable : Call → Bool
stays_unstable (call.Write file offset count asked bytes) = is_unstable asked
stays_unstable other = false

abbrev pub after_change : Waiting → Soft → Soft
after_change w s = if stays_unstable w.asked.call then s else forgets w.held s

abbrev pub event_of : Scene → Waiting → Mark → ℕ
event_of x w AtAnswer = w.answered
event_of x w AtOnce = x.event

-- the reply where the proxy itself ends the call; a call that changes nothing takes effect at once
abbrev pub answers_as : Scene → Proxy → ℕ → Waiting → Reply → Mark → Option Choice → Segment
answers_as x p n w r mark None = ends p n (learns r p.soft) (note.Replied n (event_of x w mark) (answer_to w.asked r) ∷ [])
answers_as x p n w r mark (Some choice) =
    ends p n (after_change w p.soft) (note.Did n x.moment choice ∷ note.Replied n x.event (answer_to w.asked r) ∷ [])

abbrev pub answers : Scene → Proxy → ℕ → Waiting → Ending → Segment
answers x p n w e = answers_as x p n w e.answer e.mark e.did

-- ---- a call goes on

-- the locks are held, where nobody else holds what conflicts; else it waits for them
abbrev pub locks : Proxy → ℕ → Waiting → List Hold → Segment
locks p n w holds =
    if are_free p.pending n holds then still (with_call n (record w { held = w.held ++ holds; awaits = [] }) p) (Goes n ∷ [])
    else still (with_call n (record w { awaits = holds }) p) []

abbrev pub with_own : Option Fattr → Told → Told
with_own a t = record t { attributes = a }

abbrev pub recalls : Proxy → ℕ → Waiting → ℕ → Segment
recalls p n w f = still (record (with_call n (record w { told = with_own (soft_of p.soft f) w.told }) p) { soft = touched f p.soft }) (Goes n ∷ [])

-- the actor of a wish, and its body
abbrev pub does_want : Scene → Proxy → ℕ → Waiting → Want → Segment
does_want x p n w (Lock holds) = locks p n w holds
does_want x p n w (Recall f) = recalls p n w f
does_want x p n w (FlushFirst f) = asks p n w (request p 1 0 (flush_of x p f (map.get p.soft.dirty f)))
does_want x p n w (AskFor server ks) = asks p n w (request p server 0 (body.Ask (cell_keys ks)))
does_want x p n w (ListFrom server d cookie limit) = asks p n w (request p server 0 (body.List d cookie limit))
does_want x p n w (MintAt site) = asks p n w (request p (carrier x.setup class.Dir site) 0 (body.Mint site))
does_want x p n w (ForwardLook server) =
    asks p n w (request p server 0 (body.Forward 0 (forwarded server p.next_tag w.asked.call w.packet)))
does_want x p n w (ForwardRead server count) =
    asks p n w (request p server (boot_of p server) (body.Forward 0 (forwarded_read server p.next_tag count w.asked.call w.packet)))
does_want x p n w (ForwardWrite server count) =
    asks p n w (request p server (boot_of p server) (body.Forward 0 (forwarded_write server p.next_tag count w.asked.call w.packet)))
does_want x p n w (ForwardEffect server chosen) =
    asks p n w (request p server 0 (body.Forward chosen (forwarded server p.next_tag w.asked.call w.packet)))
does_want x p n w (Operate choice parts) = asks p n w (request p 1 0 (intent_of x.moment (what.Call choice.fileid choice.kept) parts))
does_want x p n w (Answer e) = answers x p n w e

-- The call has no request out, and does what it wants next.
pub record GoesOn (x : Scene) (p : Proxy) (n : ℕ) (seg : Segment) : Type 0 where
  pub waiting : Waiting
  pub is : map.get p.pending n ≡ Some waiting
  pub unasked : waiting.request ≡ None
  pub does : seg ≡ does_want x p n waiting (wants x.setup p x.moment waiting)

-- ---- locks that have become free

abbrev pub awaits_some : Waiting → Bool
awaits_some w = not (length w.awaits == 0)

-- the call waits for locks that are free now
abbrev pub is_ready : Proxy → ℕ × Waiting → Bool
is_ready p c = awaits_some c.1 && are_free p.pending c.0 c.1.awaits

abbrev pub ready_among : Proxy → List (ℕ × Waiting) → Option (ℕ × Waiting)
ready_among p [] = None
ready_among p (c ∷ cs) = if is_ready p c then Some c else ready_among p cs

-- the one that came first, if there is one
abbrev pub first_ready : Proxy → Option (ℕ × Waiting)
first_ready p = ready_among p (map.entries p.pending)

abbrev pub wakes : Proxy → Option (ℕ × Waiting) → Segment
wakes p None = still p []
wakes p (Some c) = still (with_call c.0 (record c.1 { held = c.1.held ++ c.1.awaits; awaits = [] }) p) (Goes c.0 ∷ Wakes ∷ [])

pub record WakesNext (p : Proxy) (seg : Segment) : Type 0 where
  pub does : seg ≡ wakes p (first_ready p)

-- ---- an answer is given

-- a Found has a cell, or none, of the kind of each key
abbrev pub fits_key : CellKey → FoundCell → Bool
fits_key k found.Absent = true
fits_key (key.Attr f) (found.Attr c) = true
fits_key (key.Name d name) (found.Name c) = true
fits_key k other = false

abbrev pub fit_keys : List CellKey → List FoundCell → Bool
fit_keys [] [] = true
fit_keys (k ∷ ks) (c ∷ cs) = fits_key k c && fit_keys ks cs
fit_keys ks cs = false

abbrev pub has_cells : List CellKey → Body → Bool
has_cells keys (body.Found cells) = fit_keys keys cells
has_cells keys other = false

-- a reply to the call's procedure, or a refusal
abbrev pub has_reply : Waiting → Body → Bool
has_reply w (body.Packet answer) = is_some (reply_in w.asked.procedure answer)
has_reply w other = is_refuse other

-- a kind of answer to the request, whose cells are of the kinds of its keys, and whose packet is a reply to the call
abbrev pub has_answer : Waiting → Body → Body → Bool
has_answer w (body.Ask keys) answer = has_cells keys answer
has_answer w (body.Forward chosen packet) answer = has_reply w answer
has_answer w other answer = fits other answer

-- The frame answers the request that is out.
pub record Uses (p : Proxy) (f : Frame) : Type 0 where
  pub arrival : ℕ
  pub waiting : Waiting
  pub request : Request
  pub is : map.get p.pending arrival ≡ Some waiting
  pub out : waiting.request ≡ Some request
  pub tag : f.tag ≡ request.tag
  pub fence : f.fence ≡ p.fence
  pub sender : f.from ≡ request.to
  pub answer : has_answer waiting request.«body» f.«body» ≡ true

-- An answer by which the proxy learns that what it relied on is gone: a refusal, or another boot than the known one.
abbrev pub other_boot : Option ℕ → ℕ → Bool
other_boot None boot = false
other_boot (Some b) boot = not (b == boot)

abbrev pub refuses : Body → Bool
refuses body.Refuse = true
refuses (body.Decided agreed) = not agreed
refuses other = false

abbrev pub breaks : Proxy → Frame → Bool
breaks p f = refuses f.«body» || (is_data f.from && other_boot (map.get p.boots f.from) f.boot)

-- then it takes its next fence, and has forgotten all
pub record Renews (p : Proxy) (f : Frame) (seg : Segment) : Type 0 where
  pub uses : Uses p f
  pub broken : breaks p f ≡ true
  pub unspent : is_last_epoch p.fence ≡ false
  pub does : seg ≡ sends (memory.OfProxy (fresh (p.fence + 1))) (hello (p.fence + 1)) []

-- an answer of its first boot makes that known
abbrev pub boots_by : Frame → FinMap nat_cmp ℕ → FinMap nat_cmp ℕ
boots_by f boots = if is_data f.from then map.insert boots f.from f.boot else boots

abbrev pub answered : Waiting → ℕ → Told → Waiting
answered w e told = record w { request = None; told = told; answered = e }

abbrev pub goes_on : Proxy → ℕ → Waiting → Segment
goes_on p n w = still (with_call n w p) (Goes n ∷ [])

abbrev pub pairs : List CellKey → List FoundCell → List (CellKey × FoundCell)
pairs [] cs = []
pairs (k ∷ ks) [] = []
pairs (k ∷ ks) (c ∷ cs) = (k, c) ∷ pairs ks cs

abbrev pub with_cells : List (CellKey × FoundCell) → Told → Told
with_cells cs t = record t { cells = t.cells ++ cs }

abbrev pub with_names : ServerNames → Told → Told
with_names n t = record t { names = t.names ++ n ∷ [] }

abbrev pub with_id : ℕ → Told → Told
with_id f t = record t { minted = Some f }

abbrev pub is_full_now : Told → Told
is_full_now t = record t { full = true }

-- the moment and choice of an intent that was done
abbrev pub operated : Proxy → Waiting → Time → Choice → Outcome
operated p w at choice = effect (known p.fence w.told) (sought w.asked.call) w.asked.call w.asked.cred at choice

abbrev pub done_event : Scene → ℕ → ℕ
done_event x n = unwrap_or (map.get x.done_in n) x.event

abbrev pub ends_operation : Scene → Proxy → ℕ → Waiting → Time → What → ℕ → Segment
ends_operation x p n w at (what.Flush f) e = goes_on (record p { soft = flushed f p.soft }) n (answered w e w.told)
ends_operation x p n w at (what.Call chosen kept) e =
    ends p n (forgets w.held p.soft) (note.Replied n (done_event x n) (answer_to w.asked (operated p w at (record { fileid = chosen; kept = kept })).answer) ∷ [])

-- ---- packets

-- a reply's attributes are the proxy's own, where it has them
abbrev pub own_or : Soft → Option Fattr → Option Fattr
own_or s None = None
own_or s (Some a) = if is_reg a.kind then Some (unwrap_or (soft_of s a.fileid) a) else Some a

abbrev pub with_attributes : Soft → Reply → Reply
with_attributes s (reply.Getattr (Ok a)) = reply.Getattr (Ok (if is_reg a.kind then unwrap_or (soft_of s a.fileid) a else a))
with_attributes s (reply.Access (Ok c)) = reply.Access (Ok (record c { attributes = own_or s c.attributes }))
with_attributes s other = other

abbrev pub ends_look : Scene → Proxy → ℕ → Waiting → ℕ → Reply → Segment
ends_look x p n w e r = ends p n (learns (with_attributes p.soft r) p.soft) (note.Replied n e (answer_to w.asked (with_attributes p.soft r)) ∷ [])

abbrev pub bytes_in : Reply → List ℕ
bytes_in (reply.Read (Ok r)) = r.bytes
bytes_in other = []

abbrev pub with_bytes : List ℕ → Reply → Reply
with_bytes bytes (reply.Read (Ok r)) = reply.Read (Ok (record r { bytes = bytes }))
with_bytes bytes other = other

abbrev pub ends_read : Scene → Proxy → ℕ → Waiting → ℕ → Reply → Segment
ends_read x p n w e r =
    let whole = with_bytes (bytes_in r) (effect_with (knowing x.setup p x.moment w) no_choice).answer in
    ends p n (learns whole p.soft) (note.Replied n e (answer_to w.asked whole) ∷ [])

abbrev pub written_attributes : Reply → Option Fattr
written_attributes (reply.Write (Ok r)) = r.wcc.after
written_attributes other = None

abbrev pub writes_to : Option Fattr → ℕ → Soft → Soft
writes_to None server s = s
writes_to (Some a) server s = written a server s

-- no place is left for one more file with unstable writes
abbrev pub has_no_place : Soft → Option Fattr → Bool
has_no_place s None = false
has_no_place s (Some a) = not (is_dirty s a.fileid) && nat_le most_dirty (map.len s.dirty)

-- An unstable WRITE takes effect here and now. Where no place is left for it, it goes on as a stable one.
abbrev pub ends_write : Scene → Proxy → ℕ → Waiting → ℕ → ℕ → Reply → Segment
ends_write x p n w e server r =
    if has_no_place p.soft (written_attributes r) then goes_on p n (answered w e (is_full_now w.told))
    else ends p n (writes_to (written_attributes r) server p.soft) (note.Did n x.moment no_choice ∷ note.Replied n x.event (answer_to w.asked r) ∷ [])

abbrev pub ends_effect : Scene → Proxy → ℕ → Waiting → Reply → Segment
ends_effect x p n w r = ends p n (forgets w.held p.soft) (note.Replied n (done_event x n) (answer_to w.asked (with_object outer_object r)) ∷ [])

abbrev pub is_read : Call → Bool
is_read (call.Read file offset count) = true
is_read other = false

abbrev pub by_packet : Scene → Proxy → ℕ → Waiting → ℕ → ℕ → Reply → Segment
by_packet x p n w e server r =
    if is_data server && is_read w.asked.call then ends_read x p n w e r
    else if is_data server then ends_write x p n w e server (effect_with (knowing x.setup p x.moment w) no_choice).answer
    else if is_changing w.asked.call then ends_effect x p n w r
    else ends_look x p n w e r

abbrev pub by_packet_if : Scene → Proxy → ℕ → Waiting → ℕ → ℕ → Option Reply → Segment
by_packet_if x p n w e server None = still p []
by_packet_if x p n w e server (Some r) = by_packet x p n w e server r

abbrev pub by_found : Proxy → ℕ → Waiting → ℕ → List CellKey → Body → Segment
by_found p n w e keys (body.Found cells) = goes_on p n (answered w e (with_cells (pairs keys cells) w.told))
by_found p n w e keys other = still p []

abbrev pub by_listed : Proxy → ℕ → Waiting → ℕ → Body → Segment
by_listed p n w e (body.Listed cells more) = goes_on p n (answered w e (with_names (record { cells = cells; more = more }) w.told))
by_listed p n w e other = still p []

abbrev pub by_minted : Proxy → ℕ → Waiting → ℕ → Body → Segment
by_minted p n w e (body.Minted f) = goes_on p n (answered w e (with_id f w.told))
by_minted p n w e other = still p []

abbrev pub by_decided : Scene → Proxy → ℕ → Waiting → ℕ → Intent → Body → Segment
by_decided x p n w e i (body.Decided agreed) = ends_operation x p n w i.moment i.what e
by_decided x p n w e i other = still p []

abbrev pub by_reply : Scene → Proxy → ℕ → Waiting → ℕ → ℕ → Body → Segment
by_reply x p n w e server (body.Packet answer) = by_packet_if x p n w e server (reply_in w.asked.procedure answer)
by_reply x p n w e server other = still p []

-- what an answer leads to, by the request that it answers
abbrev pub by_answer : Scene → Proxy → ℕ → Waiting → ℕ → ℕ → Body → Body → Segment
by_answer x p n w e server (body.Ask keys) answer = by_found p n w e keys answer
by_answer x p n w e server (body.List d cookie limit) answer = by_listed p n w e answer
by_answer x p n w e server (body.Mint site) answer = by_minted p n w e answer
by_answer x p n w e server (body.Intent i) answer = by_decided x p n w e i answer
by_answer x p n w e server (body.Forward chosen packet) answer = by_reply x p n w e server answer
by_answer x p n w e server other answer = still p []

pub record UsesAnswer (x : Scene) (p : Proxy) (f : Frame) (e : ℕ) (seg : Segment) : Type 0 where
  pub uses : Uses p f
  pub unbroken : breaks p f ≡ false
  pub does : seg ≡ by_answer x (record p { boots = boots_by f p.boots }) uses.arrival uses.waiting e f.from uses.request.«body» f.«body»

-- the first Welcome of its fence
pub record IsWelcomed (p : Proxy) (f : Frame) (seg : Segment) : Type 0 where
  pub fence : f.fence ≡ p.fence
  pub kind : f.«body» ≡ body.Welcome
  pub sender : f.from ≡ 1
  pub first : p.welcomed ≡ false
  pub does : seg ≡ notes (record p { welcomed = true }) (note.Verf p.fence ∷ []) []

-- Any other frame is passed over.
pub record Ignores (p : Proxy) (f : Frame) (seg : Segment) : Type 0 where
  pub no_answer : Uses p f → ⊥
  pub no_welcome : (f.fence == p.fence && (is_welcome f.«body» && (f.from == 1 && not p.welcomed))) ≡ false
  pub does : seg ≡ still p []

-- ---- at a tick: Hello until it is welcomed, and then each request again, in the order of the calls

abbrev pub frame_again : Proxy → ℕ → Option Request → List Frame
frame_again p n None = []
frame_again p n (Some r) = request_frame p n r ∷ []

abbrev pub frames_again : Proxy → List (ℕ × Waiting) → List Frame
frames_again p [] = []
frames_again p (c ∷ cs) = frame_again p c.0 c.1.request ++ frames_again p cs

pub record SendsAgain (p : Proxy) (seg : Segment) : Type 0 where
  pub does :
      seg ≡ record {
        append = None;
        memory = memory.OfProxy p;
        frames = if p.welcomed then frames_again p (map.entries p.pending) else hello p.fence ∷ [];
        notes = [];
        todo = [];
      }

pub data ProxyRow (x : Scene) (p : Proxy) (t : Task) (seg : Segment) : Type 0 where
  IsTaken : (n client : ℕ) (bytes : List ℕ) → t ≡ Arrives n client bytes → Takes p n client bytes seg → ProxyRow x p t seg
  IsGoing : (n : ℕ) → t ≡ Goes n → GoesOn x p n seg → ProxyRow x p t seg
  IsWaking : t ≡ Wakes → WakesNext p seg → ProxyRow x p t seg
  IsUsed : (f : Frame) (e : ℕ) → t ≡ Given f e → UsesAnswer x p f e seg → ProxyRow x p t seg
  IsRenewed : (f : Frame) (e : ℕ) → t ≡ Given f e → Renews p f seg → ProxyRow x p t seg
  IsGreeted : (f : Frame) (e : ℕ) → t ≡ Given f e → IsWelcomed p f seg → ProxyRow x p t seg
  IsIgnored : (f : Frame) (e : ℕ) → t ≡ Given f e → Ignores p f seg → ProxyRow x p t seg
  IsSentAgain : t ≡ Ticks → SendsAgain p seg → ProxyRow x p t seg
