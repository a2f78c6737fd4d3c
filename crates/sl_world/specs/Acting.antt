-- One actor's step by itself: the segments that it plays, what they send and note, and what becomes of the actor.
use Rattle.std.specs.Prelude.{◌≡◌, ℕ, List, [], ◌∷◌, ◌++◌, Some}
use Rattle.std.specs.FinMap as map
use Rattle.sl_frames.specs.declared.frame.Frame.{Frame}
use Rattle.sl_history.specs.Turns.{Remark}
use Rattle.sl_machine.specs.Records.{Record}
use Rattle.sl_machine.specs.Memory.{Memory, Actor}
use Rattle.sl_machine.specs.World.{World, Task, Scene, scene, Segment, Told, after_segment, played, told, done_after}
use Rattle.sl_machine.specs.Runs.{May, Plays}

-- the scene of the next segment, which knows what was noted
abbrev pub later : Scene → Segment → Scene
later x s = record x { done_in = done_after s.notes x.event x.done_in }

-- The actor does its tasks by these segments, one after the other, until nothing is left to do.
abbrev pub Acts : Scene → Actor → List Task → List Segment → Actor → Type 0
Acts x a [] [] after = after ≡ a
Acts x a [] (s ∷ ss) after = ⊥
Acts x a (t ∷ todo) [] after = ⊥
Acts x a (t ∷ todo) (s ∷ ss) after = May x a t s × Acts (later x s) (after_segment a s) (s.todo ++ todo) ss after

-- what the segments send and note, in their order
abbrev pub frames_of : List Segment → List Frame
frames_of [] = []
frames_of (s ∷ ss) = s.frames ++ frames_of ss

abbrev pub notes_of : List Segment → List Remark
notes_of [] = []
notes_of (s ∷ ss) = s.notes ++ notes_of ss

-- The actor's step for a task sends these frames and notes these things, and it holds this memory then. What is claimed of
-- its records stays true of them.
pub record IsStep (x : Scene) (a : Actor) (t : Task) (frames : List Frame) (notes : List Remark) (m : Memory) (Keeps : List Record → Type 0) : Type 0 where
  pub segments : List Segment
  pub after : Actor
  pub acts : Acts x a (t ∷ []) segments after
  pub sends : frames_of segments ≡ frames
  pub remarks : notes_of segments ≡ notes
  pub memory : after.memory ≡ Some m
  pub keeps : Keeps after.records

-- ---- in the world

-- the world after these segments of an actor
abbrev pub world_after : World → ℕ → Actor → List Segment → World
world_after w i a [] = w
world_after w i a (s ∷ ss) = world_after (played w i a s) i (after_segment a s) ss

abbrev pub told_after : World → ℕ → Actor → List Segment → Told → Told
told_after w i a [] n = n
told_after w i a (s ∷ ss) n = told_after (played w i a s) i (after_segment a s) ss (told w s n)

-- What an actor does by itself it does in the world too.
abbrev pub StepsArePlayed : Type 0
StepsArePlayed =
    (w : World) (i : ℕ) (a after : Actor) (todo : List Task) (segments : List Segment) (n : Told) → map.get w.actors i ≡ Some a
    → Acts (scene w i) a todo segments after → Plays i todo w n segments [] (world_after w i a segments) (told_after w i a segments n)
