-- What the coordinator holds as the machine sees it, and what is claimed of its steps.
use Rattle.std.specs.Prelude.{◌≡◌, ℕ, ◌||◌, false, List, [], ◌∷◌, Result, Ok, Err, Some, nat_lt, if◌then◌else◌}
use Rattle.sl_frames.specs.Actors.{is_proxy}
use Rattle.sl_frames.specs.declared.frame.Frame.{Frame}
use Rattle.sl_frames.specs.declared.body.Body.TheVariants as body
use Rattle.sl_machine.specs.Records.{Record, started_of}
use Rattle.sl_machine.specs.Memory.{Coord, Actor, OfCoord}
use Rattle.sl_machine.specs.World.{Scene, Given}
use Rattle.sl_machine.specs.Coordinators.{welcome}
use Rattle.sl_world.specs.declared.coordinator.Coordinator.{Coordinator}
use Rattle.sl_world.specs.declared.step.Step.{Step}
use Rattle.sl_world.specs.declared.step.StepFault.{StepFault}
use Rattle.sl_world.specs.declared.step.StepFault.TheVariants.{NotBuilt, Spent, NoMemory}
use Rattle.sl_world.specs.Acting.{IsStep}
use Rattle.sl_world.specs.Sites.{site_of, seen_by}

-- a coordinator without intents
abbrev pub held : Coordinator → Coord
held c = record {
  site = site_of c.site;
  queue = [];
  granted = [];
  acknowledged = [];
  owes = false;
  heard = c.heard;
}

-- its log has no operation
abbrev pub NoOperation : List Record → Type 0
NoOperation rs = started_of rs ≡ []

-- ---- what becomes of it for a Hello

-- a Hello of an older fence is passed over
abbrev pub greeted : Coordinator → Frame → Coordinator
greeted c f = if nat_lt f.fence c.site.fence then c else record { site = seen_by c.site f; heard = is_proxy f.from || c.heard }

-- any other is answered by a Welcome
abbrev pub greeting : Coordinator → Frame → List Frame
greeting c f = if nat_lt f.fence c.site.fence then [] else welcome f.fence ∷ []

-- ---- what is claimed of a step

-- Whatever its log has beside operations, what it does for the frame is a step that the machine says. Only what is done
-- for a Hello is built, and no count is spent.
abbrev pub GivesStep : Coordinator → Coordinator → Frame → Result Step StepFault → Type 0
GivesStep old new f (Ok step) =
    (x : Scene) (a : Actor) (e : ℕ) → x.actor ≡ 1 → a.memory ≡ Some (OfCoord (held old)) → NoOperation a.records
    → IsStep x a (Given f e) step.frames step.notes (OfCoord (held new)) NoOperation
GivesStep old new f (Err NotBuilt) = f.body ≡ body.Hello → ⊥
GivesStep old new f (Err NoMemory) = Unit {0}
GivesStep old new f (Err Spent) = ⊥
