-- What the ensemble holds as the machine sees it, and what is claimed of its events.
use Rattle.std.specs.Prelude.{◌≡◌, ℕ, ◌+◌, ◌-◌, ◌^◌, ◌==◌, ◌≤◌, List, [], ◌∷◌, ◌++◌, Some, None, Result, Ok, Err, Bool, true, false, not, ◌||◌, length}
use Rattle.std.specs.Ordering.{nat_cmp, eq_by_cmp}
use Rattle.std.specs.FinMap.{FinMap}
use Rattle.std.specs.FinMap as map
use Rattle.sl_defs.specs.Histories.{Opens, Happens}
use Rattle.sl_defs.specs.declared.setup.Setup.{Setup}
use Rattle.sl_defs.specs.declared.event.Event.{Event}
use Rattle.sl_defs.specs.declared.event.Event.TheVariants as event
use Rattle.sl_frames.specs.declared.frame.Frame.{Frame}
use Rattle.sl_frames.specs.declared.body.Body.TheVariants as body
use Rattle.sl_history.specs.Turns.{Remark, Sent, Turn, History}
use Rattle.sl_history.specs.Arrivals.{datagram}
use Rattle.sl_history.specs.Frames.{named_number}
use Rattle.sl_machine.specs.Records.{Record}
use Rattle.sl_machine.specs.Memory.{Memory, Actor, OfProxy, OfCoord, OfSite}
use Rattle.sl_machine.specs.World as machine
use Rattle.sl_machine.specs.World.{Task, Given, nothing, launched, numbered}
use Rattle.sl_machine.specs.Proxies.{hello}
use Rattle.sl_machine.specs.Runs.{TurnRun, Steps, is_up}
use Rattle.sl_getattr.specs.Built.{NewRun}
use Rattle.sl_world.specs.declared.flight.Flying.{Flying}
use Rattle.sl_world.specs.declared.world.World.{World}
use Rattle.sl_world.specs.declared.world.WorldFault.{WorldFault}
use Rattle.sl_world.specs.declared.world.WorldFault.TheVariants.{UnknownFrame, NotBuilt, Spent, NoMemory}
use Rattle.sl_world.specs.declared.step.Step.{Step}
use Rattle.sl_world.specs.declared.step.StepFault.{StepFault}
use Rattle.sl_world.specs.Sites.{site_of}
use Rattle.sl_world.specs.Coordinating.{held, NoOperation}
use Rattle.sl_world.specs.Serving.{HasRoot, IsBuilt, forwarded}
use Rattle.sl_world.specs.Proxying.{IsTaken, IsUsable, mapped, proxy_of}

abbrev pub flying_of : Flying → machine.Flying
flying_of f = record { frame = f.frame; event = f.event }

-- the actor is up with this memory, and its records are so
pub record IsUp (w : machine.World) (i : ℕ) (m : Memory) (Keeps : List Record → Type 0) : Type 0 where
  pub actor : Actor
  pub is : map.get w.actors i ≡ Some actor
  pub memory : actor.memory ≡ Some m
  pub keeps : Keeps actor.records

abbrev pub Any : List Record → Type 0
Any rs = Unit {0}

-- The machine's world is this one, with disks, and maybe with other servers that nothing is asked of.
pub record Stands (v : World) (w : machine.World) : Type 0 where
  -- the one directory server
  pub first : v.directory.actor ≡ 16
  pub setup : w.setup ≡ v.proxy.setup
  pub proxy : IsUp w 0 (OfProxy (proxy_of v.proxy)) Any
  pub coordinator : IsUp w 1 (OfCoord (held v.coordinator)) NoOperation
  pub directory : IsUp w v.directory.actor (OfSite (site_of v.directory.site)) (HasRoot v.directory.volume)
  pub flight : w.flight ≡ mapped flying_of v.flight
  pub next_frame : w.next_frame ≡ v.next_frame
  pub event : w.event ≡ v.event
  pub moment : w.moment ≡ v.moment

-- The history has a run of this volume from empty disks that ends in a world which this one stands for.
pub record Follows (v : World) (h : History) : Type 0 where
  pub world : machine.World
  pub run : NewRun v.proxy.setup h world
  pub stands : Stands v world

abbrev pub turn : World → Event → List Remark → Turn
turn v e remarks = record { happening = Happens e; moment = v.moment; remarks = remarks }

-- ---- what an event does to the world

-- what was played by one actor: it is as said, and so are the frames in flight; all else is as before
pub record IsPlayed (w : machine.World) (i : ℕ) (after : Actor) (frames : List Frame) (w' : machine.World) : Type 0 where
  pub here : map.get w'.actors i ≡ Some after
  pub others : (j : ℕ) → eq_by_cmp nat_cmp j i ≡ false → map.get w'.actors j ≡ map.get w.actors j
  pub flight : w'.flight ≡ launched w.flight w.next_frame w.event frames
  pub next_frame : w'.next_frame ≡ w.next_frame + length frames
  pub setup : w'.setup ≡ w.setup
  pub event : w'.event ≡ w.event
  pub moment : w'.moment ≡ w.moment

-- ---- this world, after an event has begun, a frame has landed, and an actor has done its step

abbrev pub begun : World → World
begun v = record v { event = v.event + 1 }

abbrev pub landed : World → ℕ → World
landed v k = record v { flight = map.remove v.flight k }

-- frames are sent, in an event, under these numbers
abbrev pub sent : FinMap nat_cmp Flying → ℕ → ℕ → List Frame → FinMap nat_cmp Flying
sent flight n e [] = flight
sent flight n e (f ∷ fs) = sent (map.insert flight n (record { frame = f; event = e })) (n + 1) e fs

abbrev pub sending : List Frame → World → World
sending frames v = record v { flight = sent v.flight v.next_frame v.event frames; next_frame = v.next_frame + length frames }

-- the remarks of a turn: the frames that were sent, and then what was noted
abbrev pub remarks : World → List Frame → List Remark → List Remark
remarks v frames notes = numbered v.next_frame frames ++ notes

-- the actor does the task: these frames are sent, and these things noted
pub record Does (w : machine.World) (i : ℕ) (t : Task) (frames : List Frame) (notes : List Remark) (m : Memory) (Keeps : List Record → Type 0) : Type 0 where
  pub world : machine.World
  pub after : Actor
  pub steps : Steps i (t ∷ []) w nothing world (record { frames = numbered w.next_frame frames; notes = notes })
  pub played : IsPlayed w i after frames world
  pub memory : after.memory ≡ Some m
  pub keeps : Keeps after.records

-- The receiver of a frame does what the machine says, and this world stands for the machine's when its frames are sent.
pub record IsHanded (v v' : World) (f : Flying) (step : Step) (w : machine.World) : Type 1 where
  pub actor : ℕ
  pub to : f.frame.to ≡ actor
  pub memory : Memory
  pub Keeps : List Record → Type 0
  pub up : is_up (map.get w.actors actor) ≡ true
  pub does : Does w actor (Given f.frame f.event) step.frames step.notes memory Keeps
  pub stands : Stands (sending step.frames v') does.world

abbrev pub Hands : World → World → Flying → Result Step StepFault → Type 1
Hands v v' f (Ok step) = ((w : machine.World) → Stands v w → IsHanded v v' f step w) × (v'.proxy.setup ≡ v.proxy.setup)
Hands v v' f (Err fault) = Unit {1}

-- From a world of the machine that this one stands for, the event leads to one that the new one stands for.
pub record Leads (v v' : World) (e : Event) (rs : List Remark) (w : machine.World) : Type 0 where
  pub world : machine.World
  pub is : TurnRun w (turn v e rs) world
  pub stands : Stands v' world

-- The event's notes are those of a turn of the machine, and the new world stands for what it leads to.
pub record GoesOn (v v' : World) (e : Event) (rs : List Remark) : Type 0 where
  pub leads : (w : machine.World) → Stands v w → Leads v v' e rs w
  pub setup : v'.proxy.setup ≡ v.proxy.setup

-- ---- what is claimed of an event

-- the last number that a u64 has
abbrev pub last_number : ℕ
last_number = 2 ^ 64 - 1

-- the next event, frame or request would need a number that passes the end of its type
pub data IsSpent (v : World) : Type 0 where
  HasLastEvent : v.event ≡ last_number → IsSpent v
  HasLastFrame : v.next_frame ≡ last_number → IsSpent v
  HasLastTag : v.proxy.next_tag ≡ last_number → IsSpent v

-- the frame that the event names, if it names one, is in flight
abbrev pub KnowsFrame : World → Event → Type 0
KnowsFrame v e = (k : ℕ) → named_number (Happens e) ≡ Some k → map.contains_key v.flight k ≡ true

-- what its receiver does for a frame is built
pub data IsBuiltFrame (v : World) (f : Frame) : Type 0 where
  ForProxy : f.to ≡ 0 → IsUsable f f.«body» → IsBuiltFrame v f
  ForCoordinator : f.to ≡ 1 → f.«body» ≡ body.Hello → IsBuiltFrame v f
  ForDirectory : f.to ≡ v.directory.actor → 2 ≤ v.directory.actor → IsBuilt (forwarded f.«body») → IsBuiltFrame v f

-- In a volume with one directory server datagrams are built that are no calls, need no server or are a GETATTR, and frames
-- that are given.
abbrev pub IsBuiltEvent : World → Event → Type 0
IsBuiltEvent v (event.Call client bytes) = (v.proxy.setup.dirs ≡ 1) × IsTaken (datagram bytes)
IsBuiltEvent v (event.Give k) = (f : Flying) × (map.get v.flight k ≡ Some f) × IsBuiltFrame v f.frame
IsBuiltEvent v other = ⊥

-- The event and its notes are a turn of the machine; or the frame that it names isn't in flight, and nothing changed.
abbrev pub GivesEvent : World → World → Event → Result (List Remark) WorldFault → Type 0
GivesEvent old new e (Ok notes) = GoesOn old new e notes × KnowsFrame old e
GivesEvent old new e (Err (UnknownFrame k)) = (named_number (Happens e) ≡ Some k) × (map.get old.flight k ≡ None) × (new ≡ old)
GivesEvent old new e (Err NotBuilt) = KnowsFrame old e × (IsBuiltEvent old e → ⊥)
GivesEvent old new e (Err Spent) = KnowsFrame old e × IsSpent old
GivesEvent old new e (Err NoMemory) = Unit {0}

-- a call waits, or the proxy isn't welcomed
abbrev pub is_busy : World → Bool
is_busy v = not (map.len v.proxy.pending == 0) || not v.proxy.welcomed

-- ---- the opening

-- a volume with one directory server, and so many data servers as there may be
pub record IsSmall (s : Setup) : Type 0 where
  pub one : s.dirs ≡ 1
  pub small : s.small ≤ 4
  pub nodes : s.nodes ≤ 8

-- the ensemble opens the volume at the first moment
abbrev pub opening : Setup → List Remark → Turn
opening s remarks = record { happening = Opens s; moment = record { sec = 0; nsec = 0 }; remarks = remarks }

-- the first fence of the first start
abbrev pub first_fence : ℕ
first_fence = 4294967296

-- the ensemble when it has opened: the proxy's first Hello is in flight
abbrev pub opened : Setup → World
opened s = record {
  proxy = record { setup = s; fence = first_fence; welcomed = false; pending = map.empty; next_tag = 1 };
  coordinator = record { site = record { fence = 0; low = 0 }; heard = false };
  directory = record { actor = 16; volume = s.volume; site = record { fence = 0; low = 0 } };
  flight = map.insert map.empty 1 (record { frame = hello first_fence; event = 0 });
  next_frame = 2;
  event = 0;
  moment = record { sec = 0; nsec = 0 };
}

-- Such a volume is opened so, and its first Hello is noted.
abbrev pub GivesOpening : Setup → Result (World × List Remark) WorldFault → Type 0
GivesOpening s (Ok x) = IsSmall s × (x.0 ≡ opened s) × (x.1 ≡ Sent 1 (hello first_fence) ∷ [])
GivesOpening s (Err NotBuilt) = IsSmall s → ⊥
GivesOpening s (Err NoMemory) = Unit {0}
GivesOpening s (Err other) = ⊥
