use Rattle.std.proofs.Common.{sym, subst}
use Rattle.std.specs.Prelude.{map}
use Rattle.sl_defs.specs.declared.bytes.NoMemory.{NoMemory}
use Rattle.sl_defs.specs.declared.setup.Setup.{Setup}
use Rattle.sl_model.specs.Volume.{Volume}
use Rattle.sl_past.specs.Words.{remark_of}
use Rattle.sl_history.specs.Volumes.{volume_after}
use Rattle.sl_history.specs.Wired.{AreTrue}
use Rattle.sl_wiring.specs.Telling.{IsTrueRemark}
use Rattle.sl_wiring.proofs.Saying.{says_false, says_true}
use Rattle.sl_wiring.proofs.ToldLaws.{true_all, true_next, true_wrong}
use Rattle.sl_wiring.proofs.docket.Docket.are_true.Goals as goal

pub loop-remark-init : goal.loop-remark-init
loop-remark-init c = λ h ledger. (λ are. are, λ are. are)

pub loop-remark-preserved : goal.loop-remark-preserved
loop-remark-preserved c = λ h ledger.
    let d = c.args.self.now in
    true_next d.setup d.volume h c.args.remarks.now c.loop-remark.remark-index c.remark-item.result c.loop-remark-test.true c.remark-item.is
    (says_true NoMemory c.in_ok-is_true.is_true (IsTrueRemark d.setup d.volume h (remark_of c.remark-item.result)) c.if-not-is_true.false (c.in_ok-is_true.ensures h ledger))
    (c.loop-remark.invariant h ledger)

pub returns-then-not-is_true : goal.returns-then-not-is_true
returns-then-not-is_true c = λ setup start h is all.
    let d = c.args.self.now in
    true_wrong d.setup d.volume h c.args.remarks.now c.loop-remark.remark-index c.remark-item.result c.loop-remark-test.true c.remark-item.is
    (says_false NoMemory c.in_ok-is_true.is_true (IsTrueRemark d.setup d.volume h (remark_of c.remark-item.result)) c.if-not-is_true.true (c.in_ok-is_true.ensures h is.ledger))
    (c.loop-remark.invariant h is.ledger)
    (subst (λ (v : Volume). AreTrue d.setup v h (map remark_of c.args.remarks.now)) (sym is.volume) (subst (λ (s : Setup). AreTrue s (volume_after start h) h (map remark_of c.args.remarks.now)) (sym is.setup_is) all))

pub returns : goal.returns
returns c = λ setup start h is.
    let d = c.args.self.now in
    subst (λ (s : Setup). AreTrue s (volume_after start h) h (map remark_of c.args.remarks.now)) is.setup_is (subst (λ (v : Volume). AreTrue d.setup v h (map remark_of c.args.remarks.now)) is.volume
    (true_all d.setup d.volume h c.args.remarks.now c.loop-remark.remark-index c.loop-remark-test.false (c.loop-remark.invariant h is.ledger)))
