use Rattle.std.proofs.Common.{◌≤◌, [], drop, length}
use Rattle.std.specs.Prelude.{map}
use Rattle.sl_history.specs.Licensed.{files_of}
use Rattle.sl_plain.specs.Unstables.{write_of}
use Rattle.sl_licence.specs.Dirty.{AreFiles}
use Rattle.sl_licence.proofs.dirty.Files.add_writes.Given as goal

abbrev pub invariant-loop-left : goal.invariant-loop-left
invariant-loop-left l = record {
  within : l.left ≤ length l.writes;
  files : AreFiles [] l.fn.self → AreFiles (files_of (map write_of (drop l.left l.writes))) l.self;
}

abbrev pub decreases-loop-left : goal.decreases-loop-left
decreases-loop-left l = l.left
