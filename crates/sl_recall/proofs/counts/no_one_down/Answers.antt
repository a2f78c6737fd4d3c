use Rattle.std.proofs.Common.{◌∙◌, sym, refl}
use Rattle.sl_recall.proofs.AnyLaws.{down_here, down_passed, down_end}
use Rattle.sl_recall.proofs.counts.no_one_down.Goals as goal

pub loop-remark-init : goal.loop-remark-init
loop-remark-init c = refl

pub returns-then-is_down : goal.returns-then-is_down
returns-then-is_down c = sym (down_here c.args.remarks.now c.loop-remark.remark-index c.remark-item.result c.loop-remark-test.true c.remark-item.is (sym c.if-is_down.true ∙ c.is_down.ensures)) ∙ c.loop-remark.invariant

pub loop-remark-preserved : goal.loop-remark-preserved
loop-remark-preserved c = down_passed c.args.remarks.now c.loop-remark.remark-index c.remark-item.result c.loop-remark-test.true c.remark-item.is (sym c.if-is_down.false ∙ c.is_down.ensures) ∙ c.loop-remark.invariant

pub returns : goal.returns
returns c = sym (down_end c.args.remarks.now c.loop-remark.remark-index c.loop-remark-test.false) ∙ c.loop-remark.invariant
