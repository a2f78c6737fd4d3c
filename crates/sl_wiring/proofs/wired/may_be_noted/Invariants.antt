use Rattle.std.proofs.Common.{take, drop}
use Rattle.std.specs.Prelude.{map}
use Rattle.sl_defs.specs.declared.setup.Setup.{Setup}
use Rattle.sl_model.specs.Volume.{Volume}
use Rattle.sl_history.specs.Turns.{History}
use Rattle.sl_past.specs.Words.{remark_of}
use Rattle.sl_wiring.specs.Dockets.{IsDocketOf}
use Rattle.sl_history.specs.Turns.{begun}
use Rattle.sl_wiring.proofs.TurnLaws.{Midway}
use Rattle.sl_wiring.proofs.wired.may_be_noted.Given as goal

abbrev pub invariant-loop-remark : goal.invariant-loop-remark
invariant-loop-remark l = (setup : Setup) (start : Volume) (past : History) → IsDocketOf setup start (begun past l.turn.happening l.turn.moment) l.fn.docket
    → Midway setup start l.turn past (map remark_of (take l.remark-index l.remark-items)) (map remark_of (drop l.remark-index l.remark-items)) l.docket
