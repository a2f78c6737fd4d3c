use Rattle.std.proofs.Common.{◌≡◌, length}
use Rattle.sl_disk.specs.Stored.{AreEmpty}
use Rattle.sl_disk.proofs.memory.new_storages.Given as goal

abbrev pub invariant-loop : goal.invariant-loop
invariant-loop l = record { size : length l.storages.items ≡ l.counter; empty : AreEmpty l.storages.items }
