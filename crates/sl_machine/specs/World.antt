-- The world: its actors, the frames in flight, and what one segment of an actor's step does.
use Rattle.std.specs.Prelude.{ℕ, ◌+◌, List, [], ◌∷◌, ◌++◌, Option, Some, None, length}
use Rattle.std.specs.Ordering.{nat_cmp}
use Rattle.std.specs.FinMap.{FinMap}
use Rattle.std.specs.FinMap as map
use Rattle.sl_defs.specs.declared.setup.Setup.{Setup}
use Rattle.sl_defs.specs.declared.setup.Time.{Time}
use Rattle.sl_frames.specs.declared.frame.Frame.{Frame}
use Rattle.sl_history.specs.Turns.{Remark, Sent, Did, Replied}
use Rattle.sl_machine.specs.Records.{Record}
use Rattle.sl_machine.specs.Memory.{Memory, Actor}

-- a frame in flight, and the event that sent it
pub record Flying : Type 0 where
  pub frame : Frame
  pub event : ℕ

pub record World : Type 0 where
  pub setup : Setup
  pub actors : FinMap nat_cmp Actor
  -- the frames in flight, by their numbers
  pub flight : FinMap nat_cmp Flying
  pub next_frame : ℕ
  -- the number of the event, and its moment
  pub event : ℕ
  pub moment : Time
  -- in which event a call that still waits took effect, by its arrival
  pub done_in : FinMap nat_cmp ℕ
  -- how many of an actor's records were there when it was last noted what they say
  pub noted : FinMap nat_cmp ℕ

-- ---- what an actor has to do, one thing after another

pub data Task : Type 0 where
  -- a frame is given, which was sent in this event; and a parked frame is taken up
  Given : Frame → ℕ → Task
  TakesUp : Frame → Task
  -- a datagram arrives in this event, from this client
  Arrives : ℕ → ℕ → List ℕ → Task
  -- the call that came in this event goes on
  Goes : ℕ → Task
  -- calls whose locks have become free go on
  Wakes : Task
  -- what has no answer is sent again
  Ticks : Task
  -- the coordinator refuses an operation of an older fence; and starts what waits, and welcomes
  Refuses : ℕ → Task
  Proceeds : Task
  -- the actor is opened; and a directory server makes the root, where it is due
  Opening : Task
  Founds : Task

-- At most one record is appended; then this is the memory, these frames are sent and these things noted, and this has to
-- be done next.
pub record Segment : Type 0 where
  pub append : Option Record
  pub memory : Memory
  pub frames : List Frame
  pub notes : List Remark
  pub todo : List Task

-- nothing but this memory, and this to do
abbrev pub quiet : Memory → List Task → Segment
quiet m todo = record { append = None; memory = m; frames = []; notes = []; todo = todo }

-- one frame
abbrev pub sends : Memory → Frame → List Task → Segment
sends m f todo = record { append = None; memory = m; frames = f ∷ []; notes = []; todo = todo }

-- where and when it happens
pub record Scene : Type 0 where
  pub setup : Setup
  pub actor : ℕ
  pub event : ℕ
  pub moment : Time
  pub done_in : FinMap nat_cmp ℕ

abbrev pub scene : World → ℕ → Scene
scene w i = record { setup = w.setup; actor = i; event = w.event; moment = w.moment; done_in = w.done_in }

-- ---- what a segment does

abbrev pub appended : Option Record → List Record → List Record
appended None rs = rs
appended (Some r) rs = r ∷ rs

abbrev pub after_segment : Actor → Segment → Actor
after_segment a s = record { memory = Some s.memory; records = appended s.append a.records; limbo = None }

abbrev pub launched : FinMap nat_cmp Flying → ℕ → ℕ → List Frame → FinMap nat_cmp Flying
launched flight n event [] = flight
launched flight n event (f ∷ fs) = launched (map.insert flight n (record { frame = f; event = event })) (n + 1) event fs

abbrev pub done_after : List Remark → ℕ → FinMap nat_cmp ℕ → FinMap nat_cmp ℕ
done_after [] event done = done
done_after (Did n at choice ∷ rs) event done = done_after rs event (map.insert done n event)
done_after (Replied n e bytes ∷ rs) event done = done_after rs event (map.remove done n)
done_after (r ∷ rs) event done = done_after rs event done

abbrev pub played : World → ℕ → Actor → Segment → World
played w i a s = record w {
  actors = map.insert w.actors i (after_segment a s);
  flight = launched w.flight w.next_frame w.event s.frames;
  next_frame = w.next_frame + length s.frames;
  done_in = done_after s.notes w.event w.done_in;
  noted = map.insert w.noted i (length (appended s.append a.records));
}

-- the frames with their numbers, as they are noted
abbrev pub numbered : ℕ → List Frame → List Remark
numbered n [] = []
numbered n (f ∷ fs) = Sent n f ∷ numbered (n + 1) fs

-- A step's notes: all frames that were sent, and then what was noted, both in their order.
pub record Told : Type 0 where
  pub frames : List Remark
  pub notes : List Remark

abbrev pub nothing : Told
nothing = record { frames = []; notes = [] }

abbrev pub told : World → Segment → Told → Told
told w s t = record { frames = t.frames ++ numbered w.next_frame s.frames; notes = t.notes ++ s.notes }

-- ---- other changes of the world

abbrev pub with_actor : World → ℕ → Actor → World
with_actor w i a = record w { actors = map.insert w.actors i a }

-- its append was cut: the actor is down, and the record may be there
abbrev pub cut_actor : Actor → Record → Actor
cut_actor a r = record { memory = None; records = a.records; limbo = Some r }

-- it stopped, and its disk stays as it is
abbrev pub stopped_actor : Actor → Actor
stopped_actor a = record a { memory = None }

abbrev pub begun : World → World
begun w = record w { event = w.event + 1 }

abbrev pub landed : World → ℕ → World
landed w k = record w { flight = map.remove w.flight k }
