-- What a device call of a shelf in memory puts into its record.
use Rattle.std.specs.Prelude.{◌≡◌, ℕ, ◌++◌, Option, Some, None, List, [], ◌∷◌, set, get_or, true, false, Result, MatchResult}
use Rattle.sl_disk.specs.Shelf.{due, one_on, Rose}
use Rattle.sl_disk.specs.Record.{no_script}
use Rattle.sl_disk.specs.declared.shelf.Arm.TheVariants.{Stop, Fail}
use Rattle.sl_disk.specs.declared.shelf.ShelfFault.{ShelfFault}
use Rattle.sl_disk.specs.declared.shelf.ShelfFault.TheVariants.{Failed, Stopped, NoMemory}
use Rattle.sl_disk.specs.declared.record.Change.{Change}
use Rattle.sl_disk.specs.declared.record.Change.TheVariants.{Took, Synced, Left, StoppedAt}
use Rattle.sl_disk.specs.declared.record.Work.{Work}
use Rattle.sl_disk.specs.declared.record.Work.TheVariants.{Look, Alter, Sync}
use Rattle.sl_disk.specs.declared.record.Call.{Call}
use Rattle.sl_disk.specs.declared.script.Script.{Script}

-- what happens to the disk where the call does its work
abbrev pub when_done : Work → Option Change
when_done Look = None
when_done (Alter edit) = Some (Took (record { edit = edit; failed = false }))
when_done Sync = Some Synced

-- where the device fails
abbrev pub when_failed : Work → Option Change
when_failed Look = None
when_failed (Alter edit) = Some (Took (record { edit = edit; failed = true }))
when_failed Sync = None

-- where it stops inside the call, and leaves this image
abbrev pub when_stopped : ℕ → Work → Option Change
when_stopped image Look = Some (Left image)
when_stopped image (Alter edit) = Some (StoppedAt (record { edit = edit; failed = false }) image)
when_stopped image Sync = Some (Left image)

-- the calls with one more, if there is one
abbrev pub noting : ℕ → Option Change → List Call → List Call
noting disk None calls = calls
noting disk (Some change) calls = calls ++ (record { disk = disk; change = change }) ∷ []

-- the script of a disk
abbrev pub script_at : List Script → ℕ → Script
script_at scripts disk = get_or scripts disk no_script

-- the call did its work
pub record Worked (disk : ℕ) (work : Work) (calls later : List Call) (scripts after : List Script) : Type 0 where
  pub not_due : due (script_at scripts disk).armed ≡ None
  pub noted : later ≡ noting disk (when_done work) calls
  pub script : after ≡ set scripts disk (record (script_at scripts disk) { armed = one_on (script_at scripts disk).armed })

-- the device failed
pub record Missed (disk : ℕ) (work : Work) (calls later : List Call) (scripts after : List Script) : Type 0 where
  pub is_due : due (script_at scripts disk).armed ≡ Some Fail
  pub noted : later ≡ noting disk (when_failed work) calls
  pub count : ℕ
  pub rose : Rose (script_at scripts disk).faults count
  pub script : after ≡ set scripts disk (record (script_at scripts disk) { armed = one_on (script_at scripts disk).armed; faults = count })

-- the device stopped inside the call
pub record Broke (disk : ℕ) (work : Work) (calls later : List Call) (scripts after : List Script) : Type 0 where
  pub image : ℕ
  pub is_due : due (script_at scripts disk).armed ≡ Some (Stop image)
  pub noted : later ≡ noting disk (when_stopped image work) calls
  pub count : ℕ
  pub rose : Rose (script_at scripts disk).stops count
  pub script : after ≡ set scripts disk (record (script_at scripts disk) { armed = one_on (script_at scripts disk).armed; stops = count })

-- nothing changed
pub record Stayed (calls later : List Call) (scripts after : List Script) : Type 0 where
  pub calls_same : later ≡ calls
  pub scripts_same : after ≡ scripts

abbrev pub Faulted : ShelfFault → ℕ → Work → List Call → List Call → List Script → List Script → Type 0
Faulted Failed disk work calls later scripts after = Missed disk work calls later scripts after
Faulted Stopped disk work calls later scripts after = Broke disk work calls later scripts after
Faulted NoMemory disk work calls later scripts after = Stayed calls later scripts after

abbrev pub Performs : {T : Type 0} → ℕ → Work → List Call → List Call → List Script → List Script → Result T ShelfFault → Type 0
Performs disk work calls later scripts after result =
    MatchResult result (λ _. Worked disk work calls later scripts after) (λ fault. Faulted fault disk work calls later scripts after)
