-- What the storage of a shelf in memory holds.
use Rattle.std.specs.Prelude.{◌≡◌, ℕ, zero, suc, List, [], ◌∷◌, take, drop}
use Rattle.sl_disk.specs.Images.{DiskState, after_steps}
use Rattle.sl_disk.specs.Record.{disk_after}
use Rattle.sl_disk.specs.declared.storage.Storage.{Storage}
use Rattle.sl_disk.specs.declared.record.Call.{Call}

-- The steps from its base on are kept; so many of them are synced.
abbrev pub state_of : Storage → DiskState
state_of s = record { synced = after_steps 1 s.base.items (take s.settled s.steps.items); steps = drop s.settled s.steps.items }

abbrev pub storage_state : List Storage → ℕ → DiskState
storage_state [] d = record { synced = []; steps = [] }
storage_state (s ∷ storages) zero = state_of s
storage_state (s ∷ storages) (suc d) = storage_state storages d

-- each storage holds what the record of the calls says
abbrev pub Follow : List Storage → List Call → Type 0
Follow storages calls = (d : ℕ) → storage_state storages d ≡ disk_after calls d

-- nothing was ever on these disks
abbrev pub AreEmpty : List Storage → Type 0
AreEmpty storages = (d : ℕ) → storage_state storages d ≡ (record { synced = []; steps = [] })
