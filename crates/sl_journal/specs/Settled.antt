-- A journal at rest, and what its calls answer.
use Rattle.std.specs.Prelude.{◌≡◌, ◌⊎◌, ℕ, ◌+◌, List, [], ◌∷◌, ◌++◌, length, IsTrue, Option, None, Result, MatchResult}
use Rattle.sl_disk.specs.Shelf.{Told, Situation, Only, Rose, SameCounts}
use Rattle.sl_disk.specs.declared.shelf.ShelfFault.{ShelfFault}
use Rattle.sl_disk.specs.declared.shelf.ShelfFault.TheVariants as shelf
use Rattle.sl_journal.specs.Format.{IsJournal, Stands, records_text}
use Rattle.sl_journal.specs.declared.fault.JournalFault.{JournalFault}
use Rattle.sl_journal.specs.declared.fault.JournalFault.TheVariants.{Failed, Stopped, NotAJournal, NoMemory}

-- what contracts see of a journal: its disk, the place of the next gate, and the fault that it met
pub record JournalState : Type 0 where
  pub disk : ℕ
  pub end : ℕ
  pub fault : Option JournalFault

-- The disk holds these records, and a stop leaves them. The next gate is at `end`.
pub record SettledAt (disk end : ℕ) (head : List ℕ) (records : List (List ℕ)) (shelf : Situation) : Type 0 where
  pub modelled : IsTrue (shelf.disk disk).is_modelled
  pub journal : IsJournal (shelf.disk disk).contents head records
  pub place : end ≡ 1 + length head + length (records_text records)
  pub durable : Only (shelf.disk disk).contents (shelf.may_leave disk)

pub record IsSettled (journal : JournalState) (shelf : Situation) (head : List ℕ) (records : List (List ℕ)) : Type 0 where
  pub sound : journal.fault ≡ None
  pub settled : SettledAt journal.disk journal.end head records shelf

-- the bytes stand for these records, or for these and one more
abbrev pub StandsWithOrWithout : List ℕ → List (List ℕ) → List ℕ → List ℕ → Type 0
StandsWithOrWithout head records payload bytes = Stands bytes head records ⊎ Stands bytes head (records ++ payload ∷ [])

-- Each fault has its cause in the disk's counts, and no other answer raises one.
abbrev pub CountsFault : JournalFault → Told → Told → Type 0
CountsFault Failed old new = Rose old.faults new.faults × (new.stops ≡ old.stops)
CountsFault Stopped old new = (new.faults ≡ old.faults) × Rose old.stops new.stops
CountsFault fault old new = SameCounts old new

abbrev pub Counts : {T : Type 0} → Result T JournalFault → Told → Told → Type 0
Counts result old new = MatchResult result (λ _. SameCounts old new) (λ fault. CountsFault fault old new)

-- the journal's fault for a fault of its disk
abbrev pub fault_of : ShelfFault → JournalFault
fault_of shelf.Failed = Failed
fault_of shelf.Stopped = Stopped
fault_of shelf.NoMemory = NoMemory

-- A reading has no fault but want of memory and that there is no journal.
abbrev pub IsReadFault : {T : Type 0} → Result T JournalFault → Type 0
IsReadFault result = MatchResult result (λ _. Unit {0}) (λ fault. (fault ≡ NotAJournal) ⊎ (fault ≡ NoMemory))
