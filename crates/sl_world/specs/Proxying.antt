-- What a proxy of GETATTR calls holds as the machine sees it, and what is claimed of its steps.
use Rattle.std.specs.Prelude.{◌≡◌, ℕ, ◌+◌, ◌-◌, ◌^◌, ◌≤◌, ◌++◌, List, [], ◌∷◌, Option, Some, None, Result, Ok, Err, Bool, true, false, not, map as each, min, nat_le, if◌then◌else◌}
use Rattle.std.specs.Ordering.{nat_cmp}
use Rattle.std.specs.FinMap.{FinMap}
use Rattle.std.specs.FinMap as map
use Rattle.sl_defs.specs.declared.setup.Setup.{Setup}
use Rattle.sl_types.specs.declared.cred.Cred.{Cred}
use Rattle.sl_types.specs.declared.call.Call.{Call}
use Rattle.sl_types.specs.declared.call.Call.TheVariants as call
use Rattle.sl_types.specs.declared.handle.Handle.{Handle}
use Rattle.sl_types.specs.Handles.{handle_of, handle_text}
use Rattle.sl_types.specs.declared.kind.Status.{Status}
use Rattle.sl_types.specs.declared.kind.Status.TheVariants as status
use Rattle.sl_model.specs.Volume.{is_dir, is_reg}
use Rattle.sl_frames.specs.declared.frame.Frame.{Frame}
use Rattle.sl_frames.specs.declared.body.Body.{Body}
use Rattle.sl_frames.specs.declared.body.Body.TheVariants as body
use Rattle.sl_frames.specs.Actors.{is_data}
use Rattle.sl_history.specs.Turns.{Remark}
use Rattle.sl_history.specs.Turns as note
use Rattle.sl_history.specs.Arrivals.{Asked, Datagram, IsAsked, datagram, most_waiting}
use Rattle.sl_defs.specs.Rpc.{accepted_text}
use Rattle.sl_replies.specs.Texts.{reply_text}
use Rattle.sl_types.specs.declared.attributes.Fattr.{Fattr}
use Rattle.sl_types.specs.declared.reply.Reply.{Reply}
use Rattle.sl_types.specs.declared.reply.Reply.TheVariants as reply
use Rattle.sl_machine.specs.Records.{Record}
use Rattle.sl_machine.specs.Memory.{Hold, Waiting, Request, Actor, OfProxy, nothing_told, no_soft}
use Rattle.sl_machine.specs.Memory as memory
use Rattle.sl_machine.specs.Calls.{is_foreign}
use Rattle.sl_machine.specs.Packets.{forwarded, reply_in}
use Rattle.sl_machine.specs.World.{Scene, Task, Arrives, Given}
use Rattle.sl_world.specs.declared.look.Look.{Look}
use Rattle.sl_world.specs.declared.proxy.Proxy.{Proxy}
use Rattle.sl_world.specs.declared.step.Step.{Step}
use Rattle.sl_world.specs.declared.step.StepFault.{StepFault}
use Rattle.sl_world.specs.declared.step.StepFault.TheVariants.{NotBuilt, Spent, NoMemory}
use Rattle.sl_world.specs.Acting.{IsStep}

-- a map whose values are seen otherwise
abbrev pub mapped : {X Y : Type 0} → (X → Y) → FinMap nat_cmp X → FinMap nat_cmp Y
mapped g m = map.from_sorted (each (λ e. (e.0, g e.1)) (map.entries m))

-- ---- a call that waits

-- the call that was made
abbrev pub call_of : Look → Call
call_of l = call.Getattr (handle_text l.handle)

abbrev pub asked_of : Look → Asked
asked_of l = record { xid = l.xid; procedure = 1; call = call_of l; cred = l.cred }

-- what is asked of the object's server
abbrev pub request_of : Look → Request
request_of l = record { tag = l.tag; to = l.to; boot = 0; «body» = body.Forward 0 (forwarded l.to l.tag (call_of l) l.packet) }

-- it shares its object with others
abbrev pub hold_of : Handle → Hold
hold_of h = record { key = record { fileid = h.fileid; dir = is_dir h.kind }; alone = false }

-- a call that holds its object, and waits for the answer to its request
abbrev pub waiting_of : Look → Waiting
waiting_of l = record {
  client = l.client;
  packet = l.packet;
  asked = asked_of l;
  held = hold_of l.handle ∷ [];
  awaits = [];
  request = Some (request_of l);
  told = nothing_told;
  answered = 0;
}

-- the proxy knows no attributes, and relies on no boot
abbrev pub proxy_of : Proxy → memory.Proxy
proxy_of p = record {
  fence = p.fence;
  welcomed = p.welcomed;
  pending = mapped waiting_of p.pending;
  soft = no_soft;
  boots = map.empty;
  next_tag = p.next_tag;
}

-- ---- a request

-- the least tag that is waited for, else the next one
abbrev pub low_in : List (ℕ × Look) → ℕ → ℕ
low_in [] low = low
low_in (c ∷ cs) low = min c.1.tag (low_in cs low)

abbrev pub low_of : Proxy → ℕ
low_of p = low_in (map.entries p.pending) p.next_tag

-- the call waits under the number of its event, and its request has the next tag
abbrev pub with_look : Proxy → ℕ → Look → Proxy
with_look p n l = record p { pending = map.insert p.pending n l; next_tag = p.next_tag + 1 }

abbrev pub frame_of : Proxy → ℕ → Look → Frame
frame_of p n l = record {
  from = 0;
  to = l.to;
  fence = p.fence;
  tag = l.tag;
  low = low_of p;
  op = 0;
  boot = 0;
  arrival = n;
  «body» = body.Forward 0 (forwarded l.to l.tag (call_of l) l.packet);
}

-- ---- an arrival

-- the object of a handle that this volume may have, or why there is none
abbrev pub target_by : Setup → Option Handle → Result Handle Status
target_by s None = Err status.BadHandle
target_by s (Some h) = if is_foreign s h then Err status.Stale else Ok h

abbrev pub target : Setup → List ℕ → Result Handle Status
target s object = target_by s (handle_of object)

-- the records are the same as before
abbrev pub Unchanged : Actor → List Record → Type 0
Unchanged a rs = rs ≡ a.records

-- In this volume the proxy may do so for a task in an event, whatever its records are.
abbrev pub MayStep : Proxy → ℕ → Task → List Frame → List Remark → Proxy → Type 0
MayStep old event t frames notes new =
    (x : Scene) (a : Actor) → x.actor ≡ 0 → x.setup ≡ old.setup → x.event ≡ event → a.memory ≡ Some (OfProxy (proxy_of old))
    → IsStep x a t frames notes (OfProxy (proxy_of new)) (Unchanged a)

-- ---- requests that are out

-- the call of this event has its request out, to this server under this tag
pub record IsOutFor (m : FinMap nat_cmp Look) (server tag k : ℕ) : Type 0 where
  pub look : Look
  pub waits : map.get m k ≡ Some look
  pub to : look.to ≡ server
  pub is : look.tag ≡ tag

abbrev pub IsOut : FinMap nat_cmp Look → ℕ → ℕ → Option ℕ → Type 0
IsOut m server tag (Some k) = IsOutFor m server tag k
IsOut m server tag None = (k : ℕ) → IsOutFor m server tag k → ⊥

-- ---- what is claimed of a step

-- what is noted of a GETATTR call that is answered so
abbrev pub reply_note : ℕ → ℕ → ℕ → Result Fattr Status → Remark
reply_note arrival event xid r = note.Replied arrival event (accepted_text xid 0 ++ reply_text (reply.Getattr r))

-- the call waits no longer
abbrev pub without : Proxy → ℕ → Proxy
without p k = record p { pending = map.remove p.pending k }

-- the proxy remembers no attributes of these, since they are no regular file's
abbrev pub is_passing : Result Fattr Status → Bool
is_passing (Ok a) = not (is_reg a.kind)
is_passing (Err s) = true

-- there are so many directory servers as there may be
pub record HasServers (s : Setup) : Type 0 where
  pub some : 1 ≤ s.dirs
  pub few : s.dirs ≤ 8

-- what is built of a datagram: all but calls other than GETATTR
pub record IsGetattr (q : Asked) : Type 0 where
  pub procedure : q.procedure ≡ 1
  pub object : List ℕ
  pub is : q.call ≡ call.Getattr object

abbrev pub IsTaken : Datagram → Type 0
IsTaken (IsAsked q) = IsGetattr q
IsTaken other = Unit {0}

-- What it does for a datagram is a step that the machine says. The last tag that a number has is never used.
abbrev pub GivesArrival : Proxy → Proxy → ℕ → ℕ → List ℕ → Result Step StepFault → Type 0
GivesArrival old new n client bytes (Ok step) = MayStep old n (Arrives n client bytes) step.frames step.notes new × (new.setup ≡ old.setup)
GivesArrival old new n client bytes (Err NotBuilt) = HasServers old.setup → IsTaken (datagram bytes) → ⊥
GivesArrival old new n client bytes (Err Spent) = old.next_tag ≡ 2 ^ 64 - 1
GivesArrival old new n client bytes (Err NoMemory) = Unit {0}

-- a GETATTR call about the object of a handle is admitted
pub record IsAdmitted (p : Proxy) (bytes : List ℕ) (xid : ℕ) (cred : Cred) (h : Handle) : Type 0 where
  pub welcomed : p.welcomed ≡ true
  pub room : nat_le most_waiting (map.len p.pending) ≡ false
  pub asked : datagram bytes ≡ IsAsked (record { xid = xid; procedure = 1; call = call.Getattr (handle_text h); cred = cred })
  pub spelled : handle_of (handle_text h) ≡ Some h
  pub own : is_foreign p.setup h ≡ false

-- What is built of a frame: a Welcome, and a packet of a directory server that gives no file's attributes.
abbrev pub IsPassing : Option Reply → Type 0
IsPassing None = Unit {0}
IsPassing (Some (reply.Getattr r)) = is_passing r ≡ true
IsPassing (Some other) = ⊥

abbrev pub IsUsable : Frame → Body → Type 0
IsUsable f body.Welcome = Unit {0}
IsUsable f (body.Packet packet) = (is_data f.from ≡ false) × IsPassing (reply_in 1 packet)
IsUsable f other = ⊥

-- What it does for a frame, which event e sent, is a step that the machine says.
abbrev pub GivesUse : Proxy → Proxy → Frame → ℕ → Result Step StepFault → Type 0
GivesUse old new f e (Ok step) = ((n : ℕ) → MayStep old n (Given f e) step.frames step.notes new) × (new.setup ≡ old.setup)
GivesUse old new f e (Err NotBuilt) = IsUsable f f.«body» → ⊥
GivesUse old new f e (Err Spent) = ⊥
GivesUse old new f e (Err NoMemory) = Unit {0}
