-- What the functions of a world do, one by one.
use Rattle.std.specs.Prelude.{◌≡◌, ℕ, ◌+◌, ◌≤◌, Result, Ok, Err, true, false}
use Rattle.std.specs.FinMap as map
use Rattle.sl_defs.specs.declared.setup.Setup.{Setup}
use Rattle.sl_world.specs.declared.flight.Flying.{Flying}
use Rattle.sl_world.specs.declared.step.Step.{Step}
use Rattle.sl_world.specs.declared.step.StepFault.{StepFault}
use Rattle.sl_world.specs.declared.step.StepFault.TheVariants as step
use Rattle.sl_world.specs.declared.world.World.{World}
use Rattle.sl_world.specs.declared.world.WorldFault.{WorldFault}
use Rattle.sl_world.specs.declared.world.WorldFault.TheVariants.{UnknownFrame, NotBuilt, Spent, NoMemory}
use Rattle.sl_world.specs.Coordinating.{GivesStep}
use Rattle.sl_world.specs.Serving.{GivesAnswer}
use Rattle.sl_world.specs.Proxying.{GivesUse}
use Rattle.sl_world.specs.Worlds.{IsSpent, begun, last_number, opened}

-- all actors are up, and nothing was sent yet
abbrev pub silent : Setup → World
silent s = record (opened s) { flight = map.empty; next_frame = 1 }

-- there is a number for one more frame
abbrev pub HasNumber : World → Type 0
HasNumber v = v.next_frame + 1 ≤ last_number

-- an event begins, and there is a number for a frame; or a number is spent
abbrev pub Begins : World → World → Result (Unit {0}) WorldFault → Type 0
Begins old new (Ok done) = (new ≡ begun old) × HasNumber new
Begins old new (Err fault) = (fault ≡ Spent) × IsSpent old

-- the fault of an event whose step isn't made
abbrev pub fault_of : StepFault → WorldFault
fault_of step.NotBuilt = NotBuilt
fault_of step.Spent = Spent
fault_of step.NoMemory = NoMemory

-- Whose step it is that a frame calls for. Nothing else of the world is changed.
pub data IsHanded (old new : World) (f : Flying) (result : Result Step StepFault) : Type 0 where
  ToProxy : f.frame.to ≡ 0 → new ≡ record old { proxy = new.proxy } → GivesUse old.proxy new.proxy f.frame f.event result → IsHanded old new f result
  ToCoordinator : f.frame.to ≡ 1 → new ≡ record old { coordinator = new.coordinator } → GivesStep old.coordinator new.coordinator f.frame result → IsHanded old new f result
  ToDirectory :
      2 ≤ f.frame.to → f.frame.to ≡ old.directory.actor → new ≡ record old { directory = new.directory }
      → GivesAnswer old.directory new.directory f.frame result → IsHanded old new f result
  ToNobody : 2 ≤ f.frame.to → (f.frame.to ≡ old.directory.actor → ⊥) → result ≡ Err step.NotBuilt → IsHanded old new f result

-- Why an event isn't performed that names this frame and isn't built.
abbrev pub IsUnbuilt : World → ℕ → WorldFault → Type 0
IsUnbuilt v k NotBuilt = map.contains_key v.flight k ≡ true
IsUnbuilt v k (UnknownFrame n) = (n ≡ k) × (map.contains_key v.flight k ≡ false)
IsUnbuilt v k other = ⊥
