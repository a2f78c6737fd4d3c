use Rattle.std.proofs.Common.{◌≡◌, drop}
use Rattle.std.specs.Prelude.{map}
use Rattle.sl_history.specs.Completing as completing
use Rattle.sl_past.specs.Words.{remark_of}
use Rattle.sl_recall.proofs.counts.no_one_down.Given as goal

-- what is left says as much as all
abbrev pub invariant-loop-remark : goal.invariant-loop-remark
invariant-loop-remark l = completing.no_one_down (map remark_of (drop l.remark-index l.remarks)) ≡ completing.no_one_down (map remark_of l.remarks)
