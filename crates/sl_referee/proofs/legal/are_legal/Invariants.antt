use Rattle.std.proofs.Common.{[], ◌≤◌, length}
use Rattle.sl_model.specs.Volume.{Volume}
use Rattle.sl_referee.specs.Dockets.{IsDocketOf}
use Rattle.sl_referee.proofs.Turning.{Passed}
use Rattle.sl_referee.proofs.legal.are_legal.Given as goal

-- the turns from the one on that was looked at last are legal
abbrev pub invariant-loop-left : goal.invariant-loop-left
invariant-loop-left l = record {
  within : l.left ≤ length l.history;
  passed : (start : Volume) → IsDocketOf start [] l.fn.docket → Passed start l.history l.left l.docket;
}

abbrev pub decreases-loop-left : goal.decreases-loop-left
decreases-loop-left l = l.left
