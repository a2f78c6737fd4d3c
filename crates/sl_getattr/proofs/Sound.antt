-- What holds of such a run at each moment.
use Rattle.std.specs.Prelude.{◌≡◌, ℕ, ◌<◌, ◌≤◌, ◌^◌, List, [], ◌∷◌, Some, None, false}
use Rattle.std.specs.FinMap.{get}
use Rattle.sl_defs.specs.declared.setup.Setup.{Setup}
use Rattle.sl_types.specs.declared.call.Call.TheVariants as call
use Rattle.sl_types.specs.declared.handle.Handle.{Handle}
use Rattle.sl_types.specs.Handles.{handle_of}
use Rattle.sl_types.specs.declared.reply.Reply.{Reply}
use Rattle.sl_types.specs.declared.reply.Reply.TheVariants as reply
use Rattle.sl_model.specs.Perform.{fresh}
use Rattle.sl_frames.specs.declared.frame.Frame.{Frame}
use Rattle.sl_frames.specs.declared.body.Body.TheVariants as body
use Rattle.sl_history.specs.Turns.{History, events, turn_of}
use Rattle.sl_history.specs.Arrivals.{Asked, IsAsked, datagram, asked_in}
use Rattle.sl_history.specs.Frames.{last_verf}
use Rattle.sl_history.specs.Volumes.{volume_after, volume_at}
use Rattle.sl_history.specs.Legal.{any_in, is_did, is_reply, was_dropped, datagram_in}
use Rattle.sl_machine.specs.Records.{Record, cells_of, locked_in, started_of}
use Rattle.sl_machine.specs.Memory.{Site, Coord, Request, Waiting, Proxy, Actor, OfProxy, OfCoord, OfSite, no_soft}
use Rattle.sl_machine.specs.Packets.{outer, reply_in}
use Rattle.sl_machine.specs.World.{World, Flying}
use Rattle.sl_transport.proofs.Proper.{KeptIn}
use Rattle.sl_getattr.proofs.Looking.{IsNew, look_by, root_alone}
use Rattle.sl_getattr.proofs.Wanting.{hold_of}
use Rattle.sl_getattr.proofs.Counting.{Counted}

-- ---- the history

-- Nothing took effect, no call that is still to come has a reply, and the volume is as it began.
pub record Tale (s : Setup) (h : History) : Type 0 where
  pub undone : (n : ℕ) → any_in (is_did n) h ≡ false
  pub unanswered : (n : ℕ) → events h < n → any_in (is_reply n) h ≡ false
  pub after : IsNew s.volume (volume_after (fresh s.volume) h)
  pub verifier : last_verf h ≡ None → (volume_after (fresh s.volume) h).verifier ≡ 0
  pub at : (e : ℕ) → IsNew s.volume (volume_at (fresh s.volume) h e)

-- ---- whose request a tag is

-- the event of a call, and the handle that it is about
pub record Owner : Type 0 where
  pub call : ℕ
  pub handle : Handle

-- the packet's call, if it has one, asks for the attributes of this handle
pub record AsksFor (q : Asked) (h : Handle) : Type 0 where
  pub object : List ℕ
  pub is : q.call ≡ call.Getattr object
  pub spelled : handle_of (outer object) ≡ Some h
  pub small : h.volume < 2 ^ 64
  pub fits : q.xid < 2 ^ 32

-- ---- the proxy

-- A call that came in event n, has no reply, and whose request is out under a tag of its own.
pub record IsOut (s : Setup) (h : History) (owner : ℕ → Owner) (next n : ℕ) (w : Waiting) : Type 0 where
  pub object : List ℕ
  pub handle : Handle
  pub came : datagram_in (turn_of h n) ≡ Some w.packet
  pub read : datagram w.packet ≡ IsAsked w.asked
  pub procedure : w.asked.procedure ≡ 1
  pub asks : w.asked.call ≡ call.Getattr object
  pub spelled : handle_of object ≡ Some handle
  pub fits : w.asked.xid < 2 ^ 32
  pub small : handle.volume < 2 ^ 64
  pub accepted : was_dropped (turn_of h n) n ≡ false
  pub unanswered : any_in (is_reply n) h ≡ false
  pub before : n ≤ events h
  pub held : w.held ≡ hold_of handle ∷ []
  pub awaits : w.awaits ≡ []
  pub request : Request
  pub out : w.request ≡ Some request
  pub chosen : ℕ
  pub packet : List ℕ
  pub «body» : request.«body» ≡ body.Forward chosen packet
  pub to : request.to ≡ 16
  pub tag : request.tag < next
  pub owned : owner request.tag ≡ record { call = n; handle = handle }
  pub says : (q : Asked) → asked_in (datagram packet) ≡ Some q → AsksFor q handle

pub record IsProxy (s : Setup) (h : History) (owner : ℕ → Owner) (next : ℕ) (p : Proxy) : Type 0 where
  pub soft : p.soft ≡ no_soft
  pub calls : (n : ℕ) (w : Waiting) → get p.pending n ≡ Some w → IsOut s h owner next n w
  pub tag : p.next_tag ≡ next
  pub counted : Counted h p

-- ---- the coordinator, and the directory server

abbrev pub NothingKept : Site → Type 0
NothingKept m = KeptIn (λ f. ⊥) m

pub record IsCoordinator (m : Coord) (rs : List Record) : Type 0 where
  pub queue : m.queue ≡ []
  pub kept : NothingKept m.site
  pub started : started_of rs ≡ []

pub record IsDirectory (s : Setup) (m : Site) (rs : List Record) : Type 0 where
  pub kept : NothingKept m
  pub cells : cells_of rs ≡ root_alone s.volume
  pub unlocked : locked_in rs ≡ None

-- ---- frames in flight

-- it is the proxy's, and of no request and no operation
abbrev pub IsBare : Frame → Type 0
IsBare f = (f.from ≡ 0) × (f.tag ≡ 0) × (f.op ≡ 0)

-- a GETATTR that goes to its server
pub record Forwards (owner : ℕ → Owner) (next now : ℕ) (f : Frame) : Type 0 where
  pub chosen : ℕ
  pub packet : List ℕ
  pub is : f.«body» ≡ body.Forward chosen packet
  pub tag : f.tag < next
  pub before : (owner f.tag).call ≤ now
  pub says : (q : Asked) → asked_in (datagram packet) ≡ Some q → AsksFor q (owner f.tag).handle

-- and its answer, which is right
pub record Answers (s : Setup) (owner : ℕ → Owner) (next now : ℕ) (f : Frame) (e : ℕ) : Type 0 where
  pub packet : List ℕ
  pub is : f.«body» ≡ body.Packet packet
  pub tag : f.tag < next
  pub not_before : (owner f.tag).call ≤ e
  pub not_later : e ≤ now
  pub says : (r : Reply) → reply_in 1 packet ≡ Some r → r ≡ reply.Getattr (look_by s.volume (Some (owner f.tag).handle))

pub data IsFine (s : Setup) (owner : ℕ → Owner) (next now : ℕ) (f : Flying) : Type 0 where
  IsHello : f.frame.to ≡ 1 → f.frame.«body» ≡ body.Hello → IsBare f.frame → IsFine s owner next now f
  IsWelcome : f.frame.to ≡ 0 → f.frame.from ≡ 1 → f.frame.«body» ≡ body.Welcome → IsFine s owner next now f
  IsForward : f.frame.to ≡ 16 → f.frame.from ≡ 0 → Forwards owner next now f.frame → IsFine s owner next now f
  IsPacket : f.frame.to ≡ 0 → f.frame.from ≡ 16 → Answers s owner next now f.frame f.event → IsFine s owner next now f

-- ---- all together

pub record IsSound (s : Setup) (h : History) (w : World) (owner : ℕ → Owner) (next : ℕ) : Type 0 where
  pub setup : w.setup ≡ s
  pub event : w.event ≡ events h
  pub tale : Tale s h
  pub proxy : (a : Actor) (p : Proxy) → get w.actors 0 ≡ Some a → a.memory ≡ Some (OfProxy p) → IsProxy s h owner next p
  pub coordinator : (a : Actor) (m : Coord) → get w.actors 1 ≡ Some a → a.memory ≡ Some (OfCoord m) → IsCoordinator m a.records
  pub directory : (a : Actor) (m : Site) → get w.actors 16 ≡ Some a → a.memory ≡ Some (OfSite m) → IsDirectory s m a.records
  pub flight : (k : ℕ) (f : Flying) → get w.flight k ≡ Some f → IsFine s owner next (events h) f

pub record Sound (s : Setup) (h : History) (w : World) : Type 0 where
  pub owner : ℕ → Owner
  pub next : ℕ
  pub is : IsSound s h w owner next
