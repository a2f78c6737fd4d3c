-- Events, and runs: what a turn does to the world, and which histories follow.
use Rattle.std.specs.Prelude.{◌≡◌, ℕ, List, [], ◌∷◌, ◌++◌, Option, Some, None, Bool, true, false, length, ◌⊎◌}
use Rattle.std.specs.Option.{unwrap_or}
use Rattle.std.specs.FinMap as map
use Rattle.sl_defs.specs.Histories.{Happening, Opens, Reaches, Happens}
use Rattle.sl_defs.specs.declared.setup.Setup.{Setup}
use Rattle.sl_defs.specs.declared.event.Event.{Event}
use Rattle.sl_defs.specs.declared.event.Event.TheVariants as event
use Rattle.sl_route.specs.declared.class.Class.TheVariants as class
use Rattle.sl_frames.specs.Actors.{is_directory, is_data}
use Rattle.sl_frames.specs.declared.frame.Frame.{Frame}
use Rattle.sl_history.specs.Turns.{Remark, Turn, History}
use Rattle.sl_history.specs.Turns as note
use Rattle.sl_history.specs.Legal.{NotAfter}
use Rattle.sl_machine.specs.Records.{Record, is_last_epoch}
use Rattle.sl_machine.specs.Memory.{Site, Store, Coord, Proxy, Memory, Actor, OfProxy, OfCoord, OfSite, OfStore}
use Rattle.sl_machine.specs.World.{World, Flying, Task, Given, Arrives, Ticks, Opening, Founds, Scene, scene, Segment, Told, nothing, quiet, played, told, with_actor, cut_actor, stopped_actor, begun, landed, done_after}
use Rattle.sl_machine.specs.Parts.{class_servers}
use Rattle.sl_machine.specs.Directories.{DirectoryRow}
use Rattle.sl_machine.specs.Stores.{StoreRow, Boots}
use Rattle.sl_machine.specs.Coordinators.{CoordinatorRow}
use Rattle.sl_machine.specs.Proxies.{ProxyRow, Uses, breaks}
use Rattle.sl_machine.specs.Proxies as proxies
use Rattle.sl_machine.specs.Openings.{Found, RestoredSite, RestoredCoord, settled}

-- ---- one segment

-- At its opening a directory server holds what its records tell, and then makes the root where it is due.
pub record OpensDirectory (x : Scene) (a : Actor) (seg : Segment) : Type 0 where
  pub site : Site
  pub restored : RestoredSite x.actor a.records site
  pub does : seg ≡ quiet (OfSite site) (Founds ∷ [])

pub record OpensCoordinator (a : Actor) (seg : Segment) : Type 0 where
  pub coord : Coord
  pub restored : RestoredCoord a.records coord
  pub does : seg ≡ quiet (OfCoord coord) []

-- What an actor may do for a task, by its class and by whether it is up.
pub data May (x : Scene) (a : Actor) (t : Task) (seg : Segment) : Type 0 where
  ByProxy : (p : Proxy) → x.actor ≡ 0 → a.memory ≡ Some (OfProxy p) → ProxyRow x p t seg → May x a t seg
  ByCoordinator : (m : Coord) → x.actor ≡ 1 → a.memory ≡ Some (OfCoord m) → CoordinatorRow x a m t seg → May x a t seg
  ByDirectory : (s : Site) → is_directory x.actor ≡ true → a.memory ≡ Some (OfSite s) → DirectoryRow x a s t seg → May x a t seg
  ByStore : (m : Store) → is_data x.actor ≡ true → a.memory ≡ Some (OfStore m) → StoreRow x a m t seg → May x a t seg
  ByOpenedProxy : x.actor ≡ 0 → a.memory ≡ None → t ≡ Opening → proxies.Opens a seg → May x a t seg
  ByOpenedCoordinator : x.actor ≡ 1 → a.memory ≡ None → t ≡ Opening → OpensCoordinator a seg → May x a t seg
  ByOpenedDirectory : is_directory x.actor ≡ true → a.memory ≡ None → t ≡ Opening → OpensDirectory x a seg → May x a t seg
  ByOpenedStore : is_data x.actor ≡ true → a.memory ≡ None → t ≡ Opening → Boots a seg → May x a t seg

-- ---- a step: segments, until nothing is left to do

-- Actor i does its tasks, a segment at a time. What is left to do, the world and what was told come last.
abbrev pub Plays : ℕ → List Task → World → Told → List Segment → List Task → World → Told → Type 0
Plays i todo w n [] left w' n' = (left ≡ todo) × (w' ≡ w) × (n' ≡ n)
Plays i [] w n (s ∷ ss) left w' n' = ⊥
Plays i (t ∷ todo) w n (s ∷ ss) left w' n' =
    (a : Actor) × (map.get w.actors i ≡ Some a) × May (scene w i) a t s × Plays i (s.todo ++ todo) (played w i a s) (told w s n) ss left w' n'

-- the actor goes down, which is noted last
abbrev pub down_told : ℕ → Told → Told
down_told i n = record n { notes = n.notes ++ note.Down i ∷ [] }

-- The append of the next segment is cut: nothing else of it is done, and the record may be there.
pub record Cut (i : ℕ) (todo : List Task) (w : World) (n : Told) (w' : World) (n' : Told) : Type 0 where
  pub actor : Actor
  pub task : Task
  pub rest : List Task
  pub segment : Segment
  pub cut : Record
  pub next : todo ≡ task ∷ rest
  pub is : map.get w.actors i ≡ Some actor
  pub may : May (scene w i) actor task segment
  pub append : segment.append ≡ Some cut
  pub world : w' ≡ with_actor w i (cut_actor actor cut)
  pub noted : n' ≡ down_told i n

-- The proxy would need a fence after the last one of its start.
pub record Spent (i : ℕ) (todo : List Task) (w : World) (n : Told) (w' : World) (n' : Told) : Type 0 where
  pub actor : Actor
  pub proxy : Proxy
  pub frame : Frame
  pub event : ℕ
  pub rest : List Task
  pub next : todo ≡ Given frame event ∷ rest
  pub proxy_is : i ≡ 0
  pub is : map.get w.actors i ≡ Some actor
  pub up : actor.memory ≡ Some (OfProxy proxy)
  pub uses : Uses proxy frame
  pub broken : breaks proxy frame ≡ true
  pub last : is_last_epoch proxy.fence ≡ true
  pub world : w' ≡ with_actor w i (stopped_actor actor)
  pub noted : n' ≡ down_told i n

-- how a step ends
pub data Ends (i : ℕ) (todo : List Task) (w : World) (n : Told) (w' : World) (n' : Told) : Type 0 where
  Whole : todo ≡ [] → w' ≡ w → n' ≡ n → Ends i todo w n w' n'
  Faulted : Cut i todo w n w' n' → Ends i todo w n w' n'
  IsSpent : Spent i todo w n w' n' → Ends i todo w n w' n'

pub record Steps (i : ℕ) (todo : List Task) (w : World) (n : Told) (w' : World) (n' : Told) : Type 0 where
  pub segments : List Segment
  pub left : List Task
  pub middle : World
  pub so_far : Told
  pub plays : Plays i todo w n segments left middle so_far
  pub ends : Ends i left middle so_far w' n'

-- ---- actors that are up, or down

abbrev pub has_memory : Option Memory → Bool
has_memory None = false
has_memory (Some m) = true

abbrev pub is_up : Option Actor → Bool
is_up None = false
is_up (Some a) = has_memory a.memory

-- nothing happens
abbrev pub Silent : World → Told → World → Told → Type 0
Silent w n w' n' = (w' ≡ w) × (n' ≡ n)

-- an actor that is up does these tasks; for another they are lost
abbrev pub IfUp : ℕ → List Task → World → Told → World → Told → Type 0
IfUp i todo w n w' n' =
    ((is_up (map.get w.actors i) ≡ true) × Steps i todo w n w' n') ⊎ ((is_up (map.get w.actors i) ≡ false) × Silent w n w' n')

-- ---- an opening

-- the records that were found, and none in limbo any more
abbrev pub opened_actor : Actor → List Record → Actor
opened_actor a rs = record a { memory = None; records = rs; limbo = None }

abbrev pub noted_of : World → ℕ → ℕ
noted_of w i = unwrap_or (map.get w.noted i) 0

abbrev pub with_notes : List Remark → Told → Told
with_notes rs n = record n { notes = n.notes ++ rs }

-- an effect that is noted is done in this event
abbrev pub done_by : List Remark → World → World
done_by rs w = record w { done_in = done_after rs w.event w.done_in }

-- The disk is read, and the actor begins with the records that were found. What the last one says is noted, where it wasn't.
pub record Begins (i : ℕ) (w : World) (n : Told) (w' : World) (n' : Told) : Type 0 where
  pub actor : Actor
  pub records : List Record
  pub is : map.get w.actors i ≡ Some actor
  pub down : actor.memory ≡ None
  pub found : Found actor records
  pub steps :
      Steps i (Opening ∷ []) (done_by (settled (noted_of w i) records) (with_actor w i (opened_actor actor records))) (with_notes (settled (noted_of w i) records) n) w' n'

-- The actor stays down: a call of its disk failed before anything was appended, or the proxy's starts are spent.
pub record FailsToOpen (i : ℕ) (w : World) (n : Told) (w' : World) (n' : Told) : Type 0 where
  pub actor : Actor
  pub is : map.get w.actors i ≡ Some actor
  pub down : actor.memory ≡ None
  pub world : w' ≡ w
  pub noted : n' ≡ down_told i n

abbrev pub Starts : ℕ → World → Told → World → Told → Type 0
Starts i w n w' n' = Begins i w n w' n' ⊎ FailsToOpen i w n w' n'

-- only an actor that is down is opened
abbrev pub IfDown : ℕ → World → Told → World → Told → Type 0
IfDown i w n w' n' =
    ((is_up (map.get w.actors i) ≡ false) × Starts i w n w' n') ⊎ ((is_up (map.get w.actors i) ≡ true) × Silent w n w' n')

-- actors are opened one after the other
abbrev pub StartsEach : List ℕ → World → Told → World → Told → Type 0
StartsEach [] w n w' n' = Silent w n w' n'
StartsEach (i ∷ is) w n w' n' = (v : World) × (m : Told) × Starts i w n v m × StartsEach is v m w' n'

-- the actors of a volume, by their numbers
abbrev pub actors_of : Setup → List ℕ
actors_of s = 0 ∷ 1 ∷ class_servers s class.Dir ++ (class_servers s class.Small ++ class_servers s class.Node)

-- ---- one event

-- a frame in flight
pub record InFlight (w : World) (k : ℕ) : Type 0 where
  pub flying : Flying
  pub is : map.get w.flight k ≡ Some flying

-- it is given to its receiver, over this world
abbrev pub IsGiven : (w : World) (k : ℕ) → InFlight w k → World → World → Told → Type 0
IsGiven w k x v w' n' = IfUp x.flying.frame.to (Given x.flying.frame x.flying.event ∷ []) v nothing w' n'

pub record Stops (i : ℕ) (w w' : World) (n' : Told) : Type 0 where
  pub actor : Actor
  pub is : map.get w.actors i ≡ Some actor
  pub world : w' ≡ with_actor w i (stopped_actor actor)
  pub noted : n' ≡ nothing

-- a datagram reaches the proxy, or is lost
pub record IsLost (w w' : World) (n' : Told) : Type 0 where
  pub down : is_up (map.get w.actors 0) ≡ false
  pub world : w' ≡ w
  pub noted : n' ≡ record { frames = []; notes = note.Lost w.event ∷ [] }

pub record Reached (client : ℕ) (bytes : List ℕ) (w w' : World) (n' : Told) : Type 0 where
  pub up : is_up (map.get w.actors 0) ≡ true
  pub steps : Steps 0 (Arrives w.event client bytes ∷ []) w nothing w' n'

-- the proxy ticks, and then the coordinator
pub record BothTick (w w' : World) (n' : Told) : Type 0 where
  pub middle : World
  pub so_far : Told
  pub proxy : IfUp 0 (Ticks ∷ []) w nothing middle so_far
  pub coordinator : IfUp 1 (Ticks ∷ []) middle so_far w' n'

-- What follows an event that has begun. That a call of a disk will stop or fail shows only when it comes.
abbrev pub Follows : Event → World → World → Told → Type 0
Follows (event.Call client bytes) w w' n' = Reached client bytes w w' n' ⊎ IsLost w w' n'
Follows (event.Give k) w w' n' = (x : InFlight w k) × IsGiven w k x (landed w k) w' n'
Follows (event.Copy k) w w' n' = (x : InFlight w k) × IsGiven w k x w w' n'
Follows (event.Drop k) w w' n' = InFlight w k × Silent (landed w k) nothing w' n'
Follows event.Tick w w' n' = BothTick w w' n'
Follows (event.Stop i image) w w' n' = Stops i w w' n'
Follows (event.Start i) w w' n' = IfDown i w nothing w' n'
Follows (event.Fuse i after image) w w' n' = Silent w nothing w' n'
Follows (event.Fail i after) w w' n' = Silent w nothing w' n'

-- ---- turns

-- all are down, and nothing was sent; each disk's records count as noted
pub record IsInitial (setup : Setup) (w : World) : Type 0 where
  pub setup_is : w.setup ≡ setup
  pub actors : (i : ℕ) (a : Actor) → map.get w.actors i ≡ Some a → (a.memory ≡ None) × (a.limbo ≡ None) × (map.get w.noted i ≡ Some (length a.records))
  pub all : map.keys w.actors ≡ actors_of setup
  pub flight : w.flight ≡ map.empty
  pub next_frame : w.next_frame ≡ 1
  pub event : w.event ≡ 0
  pub moment : w.moment ≡ record { sec = 0; nsec = 0 }
  pub done_in : w.done_in ≡ map.empty

-- the remarks of a turn: what was sent, and then what was noted
abbrev pub remarks_of : Told → List Remark
remarks_of n = n.frames ++ n.notes

abbrev pub IsTurn : Happening → World → World → Told → Type 0
IsTurn (Opens setup) w w' n = IsInitial setup w × StartsEach (actors_of setup) w nothing w' n
IsTurn (Reaches moment) w w' n = NotAfter w.moment moment × (w' ≡ record w { moment = moment }) × (n ≡ nothing)
IsTurn (Happens e) w w' n = Follows e (begun w) w' n

-- One turn, from one world to another.
pub record TurnRun (w : World) (t : Turn) (w' : World) : Type 0 where
  pub told : Told
  pub is : IsTurn t.happening w w' told
  pub remarks : t.remarks ≡ remarks_of told
  pub moment : t.moment ≡ w'.moment

abbrev pub is_opening : Happening → Bool
is_opening (Opens setup) = true
is_opening other = false

abbrev pub is_first : History → Bool
is_first [] = true
is_first (t ∷ past) = false

-- The runs of a volume: the history, the newest turn first, and the world at its end. The first turn opens the volume, and
-- no other does.
abbrev pub Run : Setup → History → World → Type 0
Run setup [] w = IsInitial setup w
Run setup (t ∷ past) w' = (w : World) × Run setup past w × (is_opening t.happening ≡ is_first past) × TurnRun w t w'
