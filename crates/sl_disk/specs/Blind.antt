-- A shelf that tells nothing but how often its devices have failed.
use Rattle.std.specs.Prelude.{◌≡◌, ℕ, Bool, true, false, List, [], None, slice_index, set, Result, MatchResult}
use Rattle.sl_disk.specs.Shelf.{Situation, Rose}
use Rattle.sl_disk.specs.declared.shelf.ShelfFault.{ShelfFault}
use Rattle.sl_disk.specs.declared.shelf.ShelfFault.TheVariants.{Failed, Stopped, NoMemory}

-- the count of each disk; no image is told
abbrev pub blind : List ℕ → Situation
blind faults =
    record {
      disk = λ d. record { is_modelled = false; contents = []; faults = slice_index faults d; stops = 0; armed = None; arms = 0; last_arm = None; crashes = 0; last_crash = None };
      may_leave = λ d c. ⊥;
      moment = 0;
      left_since = λ d t c. ⊥;
      left_together = λ t f. ⊥;
    }

abbrev pub BlamesFault : ShelfFault → ℕ → List ℕ → List ℕ → Type 0
BlamesFault Failed disk faults later = (count : ℕ) × Rose (slice_index faults disk) count × (later ≡ set faults disk count)
BlamesFault Stopped disk faults later = ⊥
BlamesFault NoMemory disk faults later = later ≡ faults

-- `Failed` raises the count of its disk, and no other answer raises any
abbrev pub Blames : {T : Type 0} → ℕ → List ℕ → List ℕ → Result T ShelfFault → Type 0
Blames disk faults later result = MatchResult result (λ _. later ≡ faults) (λ fault. BlamesFault fault disk faults later)

-- none of its disks is modelled
pub not_modelled : {A : Type 0} → ◌≡◌ {A = Bool} false true → A
not_modelled is = cc
