-- What disks show of an actor's records: the bytes that a read gives, and those that a stop may leave.
use Rattle.std.specs.Prelude.{◌≡◌, ℕ, List, [], ◌∷◌, ◌++◌, Option, Some, None, ◌⊎◌, IsSome}
use Rattle.std.specs.FinMap as map
use Rattle.sl_defs.specs.declared.setup.Setup.{Setup}
use Rattle.sl_journal.specs.Format.{Stands, head_text}
use Rattle.sl_records.specs.Records.{proxy_text, log_text, dir_text, data_text}
use Rattle.sl_machine.specs.Records.{Record, OfProxy, OfLog, OfDir, OfData}
use Rattle.sl_machine.specs.Memory.{Actor}
use Rattle.sl_machine.specs.World.{World}

-- a record's payload
abbrev pub payload : Record → List ℕ
payload (OfProxy r) = proxy_text r
payload (OfLog r) = log_text r
payload (OfDir r) = dir_text r
payload (OfData r) = data_text r

-- a journal has them the oldest first
abbrev pub payloads : List Record → List (List ℕ)
payloads [] = []
payloads (r ∷ rs) = payloads rs ++ payload r ∷ []

abbrev pub StandsFor : Setup → ℕ → List ℕ → List Record → Type 0
StandsFor setup i bytes rs = Stands bytes (head_text i setup) (payloads rs)

-- bytes that have the record in limbo, or have it not
abbrev pub MayStandFor : Setup → ℕ → List ℕ → List Record → Option Record → Type 0
MayStandFor setup i bytes rs None = StandsFor setup i bytes rs
MayStandFor setup i bytes rs (Some r) = StandsFor setup i bytes rs ⊎ StandsFor setup i bytes (r ∷ rs)

-- A disk shows an actor: what a read gives, and each image that a stop may leave, stands for its records. While the actor
-- is up none of them is in limbo.
pub record ShowsActor (setup : Setup) (i : ℕ) (contents : List ℕ) (MayLeave : List ℕ → Type 0) (a : Actor) : Type 0 where
  pub read : MayStandFor setup i contents a.records a.limbo
  pub left : (image : List ℕ) → MayLeave image → MayStandFor setup i image a.records a.limbo
  pub settled : IsSome a.memory → a.limbo ≡ None

-- The disks show a world: each actor's shows it.
abbrev pub Shows : (ℕ → List ℕ) → (ℕ → List ℕ → Type 0) → World → Type 0
Shows contents may_leave w = (i : ℕ) (a : Actor) → map.get w.actors i ≡ Some a → ShowsActor w.setup i (contents i) (may_leave i) a
