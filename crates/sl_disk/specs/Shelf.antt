-- What a shelf of disks tells of itself, and what its calls do to that.
use Rattle.std.specs.Prelude.{◌≡◌, ◌≢◌, ◌⊎◌, ◌↔◌, ℕ, ◌+◌, ◌-◌, ◌%◌, ◌^◌, ◌<◌, ◌≤◌, min, max, Bool, true, IsTrue, nat_le, if◌then◌else◌, List, [], ◌++◌, length, take, drop, replicate, Option, Some, None, Result, IsErrOf, MatchResult}
use Rattle.sl_disk.specs.declared.shelf.Armed.{Armed}
use Rattle.sl_disk.specs.declared.shelf.Arm.{Arm}
use Rattle.sl_disk.specs.declared.shelf.Arm.TheVariants.{Stop, Fail}
use Rattle.sl_disk.specs.declared.shelf.ShelfFault.{ShelfFault}
use Rattle.sl_disk.specs.declared.shelf.ShelfFault.TheVariants.{Failed, Stopped, NoMemory}

-- what is told of one disk
pub record Told : Type 0 where
  -- It keeps the disk model, and its contents are told.
  pub is_modelled : Bool
  -- what a read gives
  pub contents : List ℕ
  -- how often its device has failed, and how often it has stopped inside a call
  pub faults : ℕ
  pub stops : ℕ
  -- the call that is to fail or to stop, so many calls from now
  pub armed : Option Armed
  -- how often a call was armed, modulo 2^64, and the last of them
  pub arms : ℕ
  pub last_arm : Option Armed
  -- how often `crash` left an image, modulo 2^64, and the number of the last
  pub crashes : ℕ
  pub last_crash : Option ℕ

-- What is told of a shelf at one moment. An image of a disk is what a stop may leave on it.
pub record Situation : Type 1 where
  pub disk : ℕ → Told
  -- the images of a disk that a stop now may leave
  pub may_leave : ℕ → List ℕ → Type 0
  -- the moment, as a number that does not fall
  pub moment : ℕ
  -- the images of a disk that a stop at some moment since that one might have left
  pub left_since : ℕ → ℕ → List ℕ → Type 0
  -- Each of these lists was an image of its disk, all at one and the same moment since that one.
  pub left_together : ℕ → (ℕ → List ℕ) → Type 0

-- ---- bytes

-- with zeros behind, up to this length
abbrev pub padded : List ℕ → ℕ → List ℕ
padded file size = file ++ replicate (size - length file) 0

-- with these bytes in the place of as many from that place on
abbrev pub put : List ℕ → ℕ → List ℕ → List ℕ
put file at bytes = take at file ++ bytes ++ drop (at + length bytes) file

-- after a write of these bytes at that place, with zeros between the old end and them
abbrev pub written : List ℕ → ℕ → List ℕ → List ℕ
written file at bytes = put (padded file (at + length bytes)) at bytes

-- ---- images

-- After a write of n bytes that a stop cuts short: any bytes in the range and past the old end, the same elsewhere.
pub record Torn (at n : ℕ) (old new : List ℕ) : Type 0 where
  pub before : take (min at (length old)) new ≡ take (min at (length old)) old
  pub after : drop (at + n) new ≡ drop (at + n) old
  pub no_shorter : length old ≤ length new
  pub no_longer : length new ≤ max (length old) (at + n)

-- After a cut that a stop cuts short: some length between, any bytes from the cut on, the same before it.
pub record Shortened (size : ℕ) (old new : List ℕ) : Type 0 where
  pub before : take (min size (length old)) new ≡ take (min size (length old)) old
  pub no_shorter : min size (length old) ≤ length new
  pub no_longer : length new ≤ length old

-- each new image is an old one after a step
abbrev pub Follows : (List ℕ → List ℕ → Type 0) → (List ℕ → Type 0) → (List ℕ → Type 0) → Type 0
Follows step old new = (c : List ℕ) → new c → (d : List ℕ) × old d × step d c

-- there is no new image
abbrev pub NoMore : (List ℕ → Type 0) → (List ℕ → Type 0) → Type 0
NoMore old new = (c : List ℕ) → new c → old c

-- the images are the same
abbrev pub SameImages : (List ℕ → Type 0) → (List ℕ → Type 0) → Type 0
SameImages old new = (c : List ℕ) → old c ↔ new c

-- this is the one image
abbrev pub Only : List ℕ → (List ℕ → Type 0) → Type 0
Only file images = (c : List ℕ) → images c → c ≡ file

-- ---- what each call keeps to

-- every other disk is as it was
pub record LeavesOthers (disk : ℕ) (old new : Situation) : Type 0 where
  pub told : (d : ℕ) → d ≢ disk → new.disk d ≡ old.disk d
  pub images : (d : ℕ) → d ≢ disk → SameImages (old.may_leave d) (new.may_leave d)

-- Time goes on: a stop since t might have left what it might have left before, or what it may leave now.
pub record Elapses (old new : Situation) : Type 0 where
  pub later : old.moment ≤ new.moment
  pub nothing_else : (d t : ℕ) (c : List ℕ) → t ≤ old.moment → new.left_since d t c → old.left_since d t c ⊎ new.may_leave d c
  pub keeps : (d t : ℕ) (c : List ℕ) → t ≤ old.moment → old.left_since d t c → new.left_since d t c
  pub no_others_together : (t : ℕ) (f : ℕ → List ℕ) → t ≤ old.moment → new.left_together t f → old.left_together t f ⊎ ((d : ℕ) → d < 64 → new.may_leave d (f d))
  pub keeps_together : (t : ℕ) (f : ℕ → List ℕ) → t ≤ old.moment → old.left_together t f → new.left_together t f

-- A count rose, or stands at the last value that it can have.
pub record Rose (before now : ℕ) : Type 0 where
  pub later : before ≤ now
  pub above : min (before + 1) (2 ^ 64 - 1) ≤ now

pub record SameCounts (old new : Told) : Type 0 where
  pub faults : new.faults ≡ old.faults
  pub stops : new.stops ≡ old.stops

-- `Failed` raises the count of faults and `Stopped` that of stops
abbrev pub CountsFault : ShelfFault → Told → Told → Type 0
CountsFault Failed old new = Rose old.faults new.faults × (new.stops ≡ old.stops)
CountsFault Stopped old new = (new.faults ≡ old.faults) × Rose old.stops new.stops
CountsFault NoMemory old new = SameCounts old new

-- no other answer raises either
abbrev pub Counts : {T : Type 0} → Result T ShelfFault → Told → Told → Type 0
Counts result old new = MatchResult result (λ _. SameCounts old new) (λ fault. CountsFault fault old new)

-- what a disk keeps through every call but `arm` and `crash`
pub record KeepsScript (old new : Told) : Type 0 where
  pub model : new.is_modelled ≡ old.is_modelled
  pub arms : new.arms ≡ old.arms
  pub last_arm : new.last_arm ≡ old.last_arm
  pub crashes : new.crashes ≡ old.crashes
  pub last_crash : new.last_crash ≡ old.last_crash

-- what the next call does in place of its work
abbrev pub due : Option Armed → Option Arm
due None = None
due (Some armed) = if nat_le armed.after 1 then Some armed.how else None

-- what is still armed, one call on
abbrev pub one_on : Option Armed → Option Armed
one_on None = None
one_on (Some armed) = if nat_le armed.after 1 then None else Some (record armed { after = armed.after - 1 })

abbrev pub FaultIsDue : ShelfFault → Option Arm → Type 0
FaultIsDue Failed arm = arm ≡ Some Fail
FaultIsDue Stopped arm = (image : ℕ) × (arm ≡ Some (Stop image))
FaultIsDue NoMemory arm = Unit {0}

-- A call fails or stops exactly where that is armed. One that finds no memory is not counted.
pub record MeetsArm {T : Type 0} (old new : Option Armed) (result : Result T ShelfFault) : Type 0 where
  pub answer : MatchResult result (λ _. due old ≡ None) (λ fault. FaultIsDue fault (due old))
  pub left : (IsErrOf result NoMemory → ⊥) → new ≡ one_on old

-- the disk is as it was
pub record IsUnchanged (disk : ℕ) (old new : Situation) : Type 0 where
  pub told : new.disk disk ≡ old.disk disk
  pub images : SameImages (old.may_leave disk) (new.may_leave disk)

-- What every device call keeps to, whatever it answers.
pub record Called {T : Type 0} (disk : ℕ) (old new : Situation) (result : Result T ShelfFault) : Type 0 where
  pub others : LeavesOthers disk old new
  pub time : Elapses old new
  pub counts : Counts result (old.disk disk) (new.disk disk)
  pub script : KeepsScript (old.disk disk) (new.disk disk)
  pub armed : IsTrue (old.disk disk).is_modelled → MeetsArm (old.disk disk).armed (new.disk disk).armed result
  pub no_memory : IsErrOf result NoMemory → IsUnchanged disk old new

-- A call that only looks: unless the device stops, the disk holds what it held.
pub record OnlyLooks {T : Type 0} (disk : ℕ) (old new : Situation) (result : Result T ShelfFault) : Type 0 where
  pub contents : IsTrue (old.disk disk).is_modelled → (IsErrOf result Stopped → ⊥) → (new.disk disk).contents ≡ (old.disk disk).contents
  pub images : (IsErrOf result Stopped → ⊥) → SameImages (old.may_leave disk) (new.may_leave disk)
  pub no_more : NoMore (old.may_leave disk) (new.may_leave disk)

-- what `arm` does to the disk
pub record Arms (armed : Armed) (old new : Told) : Type 0 where
  pub model : new.is_modelled ≡ old.is_modelled
  pub counts : SameCounts old new
  pub armed_now : IsTrue old.is_modelled → new ≡ record old { armed = Some armed; arms = (old.arms + 1) % 2 ^ 64; last_arm = Some armed }

-- what `crash` does to the disk, where it answers Ok
pub record Leaves (image disk : ℕ) (old new : Situation) : Type 0 where
  pub told : IsTrue (old.disk disk).is_modelled → new.disk disk ≡ record (old.disk disk) { contents = (new.disk disk).contents; crashes = ((old.disk disk).crashes + 1) % 2 ^ 64; last_crash = Some image }
  pub an_image : IsTrue (old.disk disk).is_modelled → old.may_leave disk (new.disk disk).contents
  pub settled : IsTrue (old.disk disk).is_modelled → Only (new.disk disk).contents (new.may_leave disk)

-- a shelf of empty disks, of which none was ever armed, has failed or was left by a stop
pub record IsNew (shelf : Situation) : Type 0 where
  pub told : (d : ℕ) → shelf.disk d ≡ (record { is_modelled = true; contents = []; faults = 0; stops = 0; armed = None; arms = 0; last_arm = None; crashes = 0; last_crash = None })
  pub images : (d : ℕ) → Only [] (shelf.may_leave d)
