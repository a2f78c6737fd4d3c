-- Worlds whose maps are known by their entries, and what an event makes of them.
use Rattle.std.proofs.Common.{◌≡◌, ℕ, ◌+◌, true, List, [], ◌∷◌, ◌++◌, length, Some, refl, sym, ap, ◌∙◌, inl}
use Rattle.std.specs.Ordering.{nat_cmp}
use Rattle.std.specs.FinMap.{get, find}
use Rattle.sl_defs.specs.declared.event.Event.TheVariants as event
use Rattle.sl_frames.specs.declared.frame.Frame.{Frame}
use Rattle.sl_history.specs.Turns.{Remark, Did, Replied, Sent, Flush, Verf, Junk, Early, Full, Lost, Down}
use Rattle.sl_machine.specs.Memory.{Actor}
use Rattle.sl_machine.specs.World.{World, Flying, Task, Given, Arrives, Scene, Segment, Told, nothing, scene, played, told, after_segment, appended, launched, done_after, numbered, begun, landed}
use Rattle.sl_machine.specs.Runs.{TurnRun, May, Plays, Steps, Whole, is_up, remarks_of}
use Rattle.sl_witness.specs.Histories.{setup, epoch, turn}
use Rattle.sl_witness.proofs.Maps.{got_here}
use Rattle.sl_operations.proofs.Maps.{of, without, with_entry, got, inserted, removed}

-- the actors, the frames in flight, in which event each waiting call took effect, and how many records were noted
pub record Stage : Type 0 where
  pub event : ℕ
  pub next : ℕ
  pub actors : List (ℕ × Actor)
  pub flight : List (ℕ × Flying)
  pub done_in : List (ℕ × ℕ)
  pub noted : List (ℕ × ℕ)

abbrev pub world : Stage → World
world s = record {
  setup = setup;
  actors = of s.actors;
  flight = of s.flight;
  next_frame = s.next;
  event = s.event;
  moment = epoch;
  done_in = of s.done_in;
  noted = of s.noted;
}

-- ---- what a segment makes of a stage

abbrev launched_list : List (ℕ × Flying) → ℕ → ℕ → List Frame → List (ℕ × Flying)
launched_list flight n e [] = flight
launched_list flight n e (f ∷ fs) = launched_list (with_entry n (record { frame = f; event = e }) flight) (n + 1) e fs

abbrev pub done_list : List Remark → ℕ → List (ℕ × ℕ) → List (ℕ × ℕ)
done_list [] e done = done
done_list (Did n at choice ∷ rs) e done = done_list rs e (with_entry n e done)
done_list (Replied n at bytes ∷ rs) e done = done_list rs e (without n done)
done_list (r ∷ rs) e done = done_list rs e done

abbrev pub after_one : Stage → ℕ → Actor → Segment → Stage
after_one s i a g = record s {
  actors = with_entry i (after_segment a g) s.actors;
  flight = launched_list s.flight s.next s.event g.frames;
  next = s.next + length g.frames;
  done_in = done_list g.notes s.event s.done_in;
  noted = with_entry i (length (appended g.append a.records)) s.noted;
}

abbrev pub after_all : Stage → ℕ → Actor → List Segment → Stage
after_all s i a [] = s
after_all s i a (g ∷ gs) = after_all (after_one s i a g) i (after_segment a g) gs

launched_are : (flight : List (ℕ × Flying)) (n e : ℕ) (fs : List Frame) → launched (of flight) n e fs ≡ of (launched_list flight n e fs)
launched_are flight n e [] = refl
launched_are flight n e (f ∷ fs) =
    ap (λ m. launched m (n + 1) e fs) (inserted flight n (record { frame = f; event = e }))
    ∙ launched_are (with_entry n (record { frame = f; event = e }) flight) (n + 1) e fs

pub done_are : (rs : List Remark) (e : ℕ) (done : List (ℕ × ℕ)) → done_after rs e (of done) ≡ of (done_list rs e done)
done_are [] e done = refl
done_are (Did n at choice ∷ rs) e done = ap (done_after rs e) (inserted done n e) ∙ done_are rs e (with_entry n e done)
done_are (Replied n at bytes ∷ rs) e done = ap (done_after rs e) (removed done n) ∙ done_are rs e (without n done)
done_are (Sent n f ∷ rs) e done = done_are rs e done
done_are (Flush f ∷ rs) e done = done_are rs e done
done_are (Verf v ∷ rs) e done = done_are rs e done
done_are (Junk n ∷ rs) e done = done_are rs e done
done_are (Early n ∷ rs) e done = done_are rs e done
done_are (Full n ∷ rs) e done = done_are rs e done
done_are (Lost n ∷ rs) e done = done_are rs e done
done_are (Down i ∷ rs) e done = done_are rs e done

pub one_played : (s : Stage) (i : ℕ) (a : Actor) (g : Segment) → played (world s) i a g ≡ world (after_one s i a g)
one_played s i a g = λ j. record {
  setup = setup;
  actors = inserted s.actors i (after_segment a g) j;
  flight = launched_are s.flight s.next s.event g.frames j;
  next_frame = s.next + length g.frames;
  event = s.event;
  moment = epoch;
  done_in = done_are g.notes s.event s.done_in j;
  noted = inserted s.noted i (length (appended g.append a.records)) j;
}

-- ---- what an actor does, a segment after the other

-- The scene after a segment.
abbrev pub later : Scene → Segment → Scene
later x g = record x { done_in = done_after g.notes x.event x.done_in }

-- The actor may do these segments for its tasks, and then nothing is left to do.
abbrev pub Course : Scene → List Task → Actor → List Segment → Type 0
Course x todo a [] = todo ≡ []
Course x [] a (g ∷ gs) = ⊥
Course x (t ∷ todo) a (g ∷ gs) = May x a t g × Course (later x g) (g.todo ++ todo) (after_segment a g) gs

abbrev pub told_by : ℕ → Told → List Segment → Told
told_by n t [] = t
told_by n t (g ∷ gs) = told_by (n + length g.frames) (record { frames = t.frames ++ numbered n g.frames; notes = t.notes ++ g.notes }) gs

pub all_played :
    (gs : List Segment) (todo : List Task) (w : World) (s : Stage) (i : ℕ) (a : Actor) (n : Told) → w ≡ world s → get w.actors i ≡ Some a
    → Course (scene w i) todo a gs → Plays i todo w n gs [] (world (after_all s i a gs)) (told_by w.next_frame n gs)
all_played [] todo w s i a n e is course = (sym course, sym e, refl)
all_played (g ∷ gs) [] w s i a n e is course = absurd course
all_played (g ∷ gs) (t ∷ todo) w s i a n e is course = (
  a,
  is,
  course.0,
  all_played gs (g.todo ++ todo) (played w i a g) (after_one s i a g) i (after_segment a g) (told w g n) (ap (λ w. played w i a g) e ∙ one_played s i a g) (got_here _ i _) course.1,
)

pub steps :
    (gs : List Segment) (todo : List Task) (w : World) (s : Stage) (i : ℕ) (a : Actor) (n : Told) → w ≡ world s → get w.actors i ≡ Some a
    → Course (scene w i) todo a gs → Steps i todo w n (world (after_all s i a gs)) (told_by w.next_frame n gs)
steps gs todo w s i a n e is course = record {
  segments = gs;
  left = [];
  middle = world (after_all s i a gs);
  so_far = told_by w.next_frame n gs;
  plays = all_played gs todo w s i a n e is course;
  ends = Whole refl refl refl;
}

-- ---- events

abbrev pub begun_stage : Stage → Stage
begun_stage s = record s { event = s.event + 1 }

abbrev pub landed_stage : Stage → ℕ → Stage
landed_stage s k = record s { event = s.event + 1; flight = without k s.flight }

-- the scene of the next event
abbrev pub scene_of : Stage → ℕ → Scene
scene_of s i = record { setup = setup; actor = i; event = s.event + 1; moment = epoch; done_in = of s.done_in }

pub given_world : (s : Stage) (k : ℕ) → landed (begun (world s)) k ≡ world (landed_stage s k)
given_world s k = λ j. record (begun (world s)) { flight = removed s.flight k j }

-- a frame in flight is given, and its receiver does these segments
pub gives :
    (s : Stage) (k : ℕ) (f : Frame) (e : ℕ) (a : Actor) (gs : List Segment) → find nat_cmp k s.flight ≡ Some (record { frame = f; event = e })
    → find nat_cmp f.to s.actors ≡ Some a → is_up (Some a) ≡ true → Course (scene_of s f.to) (Given f e ∷ []) a gs
    → TurnRun (world s) (turn (event.Give k) (remarks_of (told_by s.next nothing gs))) (world (after_all (landed_stage s k) f.to a gs))
gives s k f e a gs flies there up course = record {
  told = told_by s.next nothing gs;
  is = (
    record { flying = record { frame = f; event = e }; is = got s.flight k _ flies },
    inl (ap is_up (got s.actors f.to _ there) ∙ up, steps gs (Given f e ∷ []) (landed (begun (world s)) k) (landed_stage s k) f.to a nothing (given_world s k) (got s.actors f.to _ there) course),
  );
  remarks = refl;
  moment = refl;
}

-- a datagram arrives, and the proxy does these segments
pub calls :
    (s : Stage) (client : ℕ) (bytes : List ℕ) (a : Actor) (gs : List Segment) → find nat_cmp 0 s.actors ≡ Some a → is_up (Some a) ≡ true
    → Course (scene_of s 0) (Arrives (s.event + 1) client bytes ∷ []) a gs
    → TurnRun (world s) (turn (event.Call client bytes) (remarks_of (told_by s.next nothing gs))) (world (after_all (begun_stage s) 0 a gs))
calls s client bytes a gs there up course = record {
  told = told_by s.next nothing gs;
  is = inl (record {
    up = ap is_up (got s.actors 0 _ there) ∙ up;
    steps = steps gs (Arrives (s.event + 1) client bytes ∷ []) (begun (world s)) (begun_stage s) 0 a nothing refl (got s.actors 0 _ there) course;
  });
  remarks = refl;
  moment = refl;
}
