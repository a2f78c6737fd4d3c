use Rattle.std.proofs.Common.{take, drop}
use Rattle.std.specs.Prelude.{map}
use Rattle.sl_model.specs.Volume.{Volume}
use Rattle.sl_history.specs.Turns.{History}
use Rattle.sl_past.specs.Words.{remark_of}
use Rattle.sl_referee.specs.Dockets.{IsDocketOf}
use Rattle.sl_history.specs.Turns.{begun}
use Rattle.sl_referee.proofs.Turning.{Midway}
use Rattle.sl_referee.proofs.legal.may_be_noted.Given as goal

abbrev pub invariant-loop-remark : goal.invariant-loop-remark
invariant-loop-remark l = (start : Volume) (past : History) → IsDocketOf start (begun past l.turn.happening l.turn.moment) l.fn.docket
    → Midway start l.turn past (map remark_of (take l.remark-index l.remark-items)) (map remark_of (drop l.remark-index l.remark-items)) l.docket
