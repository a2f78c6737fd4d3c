use Rattle.std.proofs.Common.{[], ◌≤◌, length}
use Rattle.sl_model.specs.Volume.{Volume}
use Rattle.sl_licence.specs.Crowds.{AreCrowdsOf}
use Rattle.sl_licence.specs.Dockets.{IsDocketOf}
use Rattle.sl_licence.proofs.Turning.{Passed}
use Rattle.sl_licence.proofs.licensed.are_licensed.Given as goal

-- the turns from the one on that was looked at last are licensed
abbrev pub invariant-loop-left : goal.invariant-loop-left
invariant-loop-left l = record {
  within : l.left ≤ length l.history;
  passed : (start : Volume) → IsDocketOf start [] l.fn.docket → AreCrowdsOf start [] l.fn.crowds → Passed start l.history l.left l.docket l.crowds;
}

abbrev pub decreases-loop-left : goal.decreases-loop-left
decreases-loop-left l = l.left
