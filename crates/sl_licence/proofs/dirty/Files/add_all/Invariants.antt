use Rattle.std.proofs.Common.{◌≤◌, ℕ, List, drop, length}
use Rattle.sl_history.specs.Licensed.{together}
use Rattle.sl_licence.specs.Dirty.{AreFiles}
use Rattle.sl_licence.proofs.dirty.Files.add_all.Given as goal

abbrev pub invariant-loop-left : goal.invariant-loop-left
invariant-loop-left l = record {
  within : l.left ≤ length l.files;
  files : (fs : List ℕ) → AreFiles fs l.fn.self → AreFiles (together (drop l.left l.files) fs) l.self;
}

abbrev pub decreases-loop-left : goal.decreases-loop-left
decreases-loop-left l = l.left
