-- What a run of calls of one disk leaves, at each of its moments.
use Rattle.std.specs.Prelude.{◌≡◌, ◌≢◌, ◌⊎◌, ℕ, ◌<◌, ◌≤◌, List}
use Rattle.sl_disk.specs.Shelf.{Situation, LeavesOthers, Torn, Only, written}

-- At each moment since the run began a stop leaves on the disk what has P, and on the others what it left before.
pub record LeavesOnly (disk : ℕ) (old new : Situation) (P : List ℕ → Type 0) : Type 0 where
  pub later : old.moment ≤ new.moment
  pub others : LeavesOthers disk old new
  pub each : (c : List ℕ) → new.left_since disk old.moment c → P c
  -- for a run that began earlier
  pub before : (t : ℕ) (c : List ℕ) → t ≤ old.moment → new.left_since disk t c → old.left_since disk t c ⊎ P c
  -- for a run that began earlier, on one other disk
  pub others_before : (d t : ℕ) (c : List ℕ) → d ≢ disk → t ≤ old.moment → new.left_since d t c → old.left_since d t c ⊎ old.may_leave d c
  -- for all disks at one and the same moment
  pub together : (t : ℕ) (f : ℕ → List ℕ) → t ≤ old.moment → new.left_together t f
      → old.left_together t f ⊎ (P (f disk) × ((d : ℕ) → d < 64 → d ≢ disk → old.may_leave d (f d)))

-- an image from before, which a write of n bytes at that place may have torn
abbrev pub IsTorn : ℕ → ℕ → (List ℕ → Type 0) → List ℕ → Type 0
IsTorn at n images c = (d : List ℕ) × images d × Torn at n d c

-- these bytes are in the disk's contents, and a stop leaves the contents
pub record IsWritten (disk at : ℕ) (bytes : List ℕ) (old new : Situation) : Type 0 where
  pub contents : (new.disk disk).contents ≡ written (old.disk disk).contents at bytes
  pub durable : Only (new.disk disk).contents (new.may_leave disk)
