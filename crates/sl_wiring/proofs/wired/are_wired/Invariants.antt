use Rattle.std.proofs.Common.{[], ◌≤◌, length}
use Rattle.sl_defs.specs.declared.setup.Setup.{Setup}
use Rattle.sl_model.specs.Volume.{Volume}
use Rattle.sl_wiring.specs.Dockets.{IsDocketOf}
use Rattle.sl_wiring.proofs.TurnLaws.{Passed}
use Rattle.sl_wiring.proofs.wired.are_wired.Given as goal

-- the turns from the one on that was looked at last are wired
abbrev pub invariant-loop-left : goal.invariant-loop-left
invariant-loop-left l = record {
  within : l.left ≤ length l.history;
  passed : (setup : Setup) (start : Volume) → IsDocketOf setup start [] l.fn.docket → Passed setup start l.history l.left l.docket;
}

abbrev pub decreases-loop-left : goal.decreases-loop-left
decreases-loop-left l = l.left
