-- The images of a disk in memory: what a stop leaves of the steps since the last sync.
use Rattle.std.specs.Prelude.{◌≡◌, ℕ, zero, suc, ◌+◌, ◌-◌, ◌*◌, ◌/◌, ◌%◌, min, Bool, true, false, List, [], ◌∷◌, length, take}
use Rattle.sl_disk.specs.Shelf.{padded, put, written}
use Rattle.sl_disk.specs.declared.steps.Edit.{Edit}
use Rattle.sl_disk.specs.declared.steps.Edit.TheVariants.{Write, Cut}
use Rattle.sl_disk.specs.declared.steps.Step.{Step}

-- what is on a disk: the contents at its last sync, and the steps since, the first of them first
pub record DiskState : Type 0 where
  pub synced : List ℕ
  pub steps : List Step

-- n bytes from place q on: image i has the byte (167·i + q) mod 256 at place q
abbrev pub junk : ℕ → ℕ → ℕ → List ℕ
junk i q zero = []
junk i q (suc n) = ((167 * i + q) % 256) ∷ junk i (q + 1) n

-- what a read gives after the step
abbrev pub as_read : Edit → Bool → List ℕ → List ℕ
as_read (Write at bytes) false file = written file at bytes
as_read (Cut size) false file = take size file
as_read edit true file = file

-- the first half of the bytes, in a file that is as long as the step made it
abbrev pub half : Edit → Bool → List ℕ → List ℕ
half (Write at bytes) false file = put (padded file (at + length bytes)) at (take (length bytes / 2) bytes)
half (Write at bytes) true file = put file (min at (length file)) (take (min (length bytes / 2) (length file - at)) bytes)
half (Cut size) false file = take size file
half (Cut size) true file = file

-- junk in the whole range, in a file that is as long as the step made it
abbrev pub spoiled : ℕ → Edit → Bool → List ℕ → List ℕ
spoiled i (Write at bytes) false file = let from = min at (length file) in put (padded file (at + length bytes)) from (junk i from (at + length bytes - from))
spoiled i (Write at bytes) true file = let from = min at (length file) in put file from (junk i from (min (at + length bytes) (length file) - from))
spoiled i (Cut size) false file = take size file
spoiled i (Cut size) true file = let from = min size (length file) in put file from (junk i from (length file - from))

-- how image i shows a step
abbrev pub shown : ℕ → Edit → Bool → List ℕ → List ℕ
shown zero edit failed file = file
shown (suc zero) edit failed file = as_read edit failed file
shown (suc (suc zero)) edit failed file = half edit failed file
shown (suc (suc (suc i))) edit failed file = spoiled (i + 3) edit failed file

-- image i: the contents at the last sync, and how it shows each of the steps since
abbrev pub after_steps : ℕ → List ℕ → List Step → List ℕ
after_steps i file [] = file
after_steps i file (step ∷ steps) = after_steps i (shown i step.edit step.failed file) steps

abbrev pub image : ℕ → DiskState → List ℕ
image i state = after_steps i state.synced state.steps

-- a stop may leave these bytes
abbrev pub IsImage : DiskState → List ℕ → Type 0
IsImage state bytes = (i : ℕ) × (bytes ≡ image i state)
