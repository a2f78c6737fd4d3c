use Rattle.std.proofs.Common.{◌≤◌, length}
use Rattle.sl_disk.proofs.files.fill.Given as goal

abbrev pub invariant-loop : goal.invariant-loop
invariant-loop l = l.done ≤ length l.into
