use Rattle.std.proofs.Common.{◌≡◌, []}
use Rattle.sl_model.specs.Volume.{Volume}
use Rattle.sl_history.specs.Turns.{History, begun}
use Rattle.sl_licence.specs.Crowds.{AreCrowdsOf}
use Rattle.sl_licence.specs.Dockets.{IsDocketOf}
use Rattle.sl_licence.proofs.Turning.{Here}
use Rattle.sl_licence.proofs.licensed.may_be_noted.Given as goal

abbrev pub invariant-loop-remark : goal.invariant-loop-remark
invariant-loop-remark l = l.fn.wanted.items ≡ [] → (start : Volume) (past : History) → IsDocketOf start (begun past l.turn.happening l.turn.moment) l.fn.docket → AreCrowdsOf start past l.crowds
    → Here start l.turn past l.remark-items l.remark-index l.docket l.wanted.items
