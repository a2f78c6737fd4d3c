use Rattle.std.proofs.Common.{◌≡◌, ◌∙◌, ◌<◌, ◌≤◌, ◌+◌, drop, length, sym, ap, subst, refl, arith}
use Rattle.std.proofs.lemmas.List.{drop_more}
use Rattle.sl_plain.proofs.UnstableLaws.{same_so_far, one_same, one_other, more_left, none_left}
use Rattle.sl_plain.proofs.unstable.are_same_writes.Goals as goal

pub loop-i-init : goal.loop-i-init
loop-i-init c = same_so_far c.args.writes.now c.args.others.now

pub returns-then-not-is_same : goal.returns-then-not-is_same
returns-then-not-is_same c =
    let here = more_left c.args.writes.now c.args.others.now c.loop-i.i c.index-writes-i.result c.index-others-i.result c.loop-i-test.true c.if-writes-others.false c.index-writes-i.is c.index-others-i.is c.loop-i.invariant in
    one_other c.args.writes.now c.args.others.now _ _ c.index-writes-i.result c.index-others-i.result here (λ e. cc (c.is_same.ensures.1 e, c.if-not-is_same.true))

pub loop-i-preserved : goal.loop-i-preserved
loop-i-preserved c =
    let here = more_left c.args.writes.now c.args.others.now c.loop-i.i c.index-writes-i.result c.index-others-i.result c.loop-i-test.true c.if-writes-others.false c.index-writes-i.is c.index-others-i.is c.loop-i.invariant in
    one_same c.args.writes.now c.args.others.now _ _ c.index-writes-i.result c.index-others-i.result here (c.is_same.ensures.0 c.if-not-is_same.false)

pub returns : goal.returns
returns c = none_left c.args.writes.now c.args.others.now c.loop-i.i c.if-writes-others.false c.loop-i-test.false c.loop-i.invariant
