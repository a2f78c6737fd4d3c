use Rattle.std.proofs.Common.{[]}
use Rattle.std.proofs.lemmas.Result.{err_from_is_err_and}
use Rattle.sl_ledger.specs.Stops.{StopsAmong}
use Rattle.sl_wiring.proofs.TurnLaws.{at_end, at_start, if_err, step_on, step_stops}
use Rattle.sl_wiring.proofs.wired.may_be_noted.Goals as goal

pub loop-remark-init : goal.loop-remark-init
loop-remark-init c = λ setup start past is. at_start setup start c.args.turn.now past c.remarks-remark-items.result.now c.args.docket.now c.remarks-remark-items.ensures is

pub loop-remark-preserved : goal.loop-remark-preserved
loop-remark-preserved c = λ setup start past is.
    step_on setup start c.args.turn.now past c.remarks-remark-items.result.now c.loop-remark.remark-index c.remark-item.result c.loop-remark.docket c.note.new.docket _ c.in_ok-may.may
    c.loop-remark-test.true c.remark-item.is c.happening.ensures c.if-not-may.false (c.loop-remark.invariant setup start past is) c.in_ok-may.ensures.notes

pub returns-in_err-may-clause-stopped : goal.returns-in_err-may-clause-stopped
returns-in_err-may-clause-stopped c = λ setup start past is.
    let t = c.args.turn.now in
    let p = err_from_is_err_and c.from_residual.result c.from_residual.ensures.1 in
    if_err (λ fault. StopsAmong fault start t past [] t.remarks) c.from_residual.result c.in_err-may.field-0.0 p.0 p.1 p.2
    (step_stops setup start t past c.remarks-remark-items.result.now c.loop-remark.remark-index c.remark-item.result c.loop-remark.docket c.note.new.docket _ c.in_err-may.field-0.0
    c.loop-remark-test.true c.remark-item.is c.happening.ensures (c.loop-remark.invariant setup start past is) c.in_err-may.ensures.notes)

pub returns-clause-takes : goal.returns-clause-takes
returns-clause-takes c = λ made setup start past is.
    (at_end setup start c.args.turn.now past c.remarks-remark-items.result.now c.loop-remark.remark-index c.loop-remark.docket c.remarks-remark-items.ensures c.loop-remark-test.false
    (c.loop-remark.invariant setup start past is)).0
