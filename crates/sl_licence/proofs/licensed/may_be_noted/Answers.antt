use Rattle.std.proofs.Common.{◌<◌, ◌≤◌, [], length, arith}
use Rattle.std.proofs.lemmas.Result.{err_from_is_err_and}
use Rattle.sl_ledger.specs.Stops.{StopsAmong}
use Rattle.sl_licence.proofs.Turning.{at_end, at_start, if_err, step_on, step_stops, step_wrong}
use Rattle.sl_licence.proofs.licensed.may_be_noted.Goals as goal

pub loop-remark-init : goal.loop-remark-init
loop-remark-init c = λ none start past is are.
    at_start start c.args.turn.now past c.remarks-remark-items.result.now c.args.docket.now c.args.wanted.now.items c.remarks-remark-items.ensures none is

pub loop-remark-preserved : goal.loop-remark-preserved
loop-remark-preserved c = λ none start past is are.
    let within : c.loop-remark.remark-index < length c.remarks-remark-items.result.now = omega arith in
    step_on start c.args.turn.now past c.remarks-remark-items.result.now c.loop-remark.remark-index c.remark-item.result c.loop-remark.docket c.note.new.self c.loop-remark.wanted.items c.note.new.wanted.items
    c.args.crowds.now c.in_ok-may.may within c.remark-item.is c.if-not-may.false are (c.loop-remark.invariant none start past is are) c.in_ok-may.ensures.notes

pub returns-then-not-may-clause-decides : goal.returns-then-not-may-clause-decides
returns-then-not-may-clause-decides c = λ none start past is are.
    let within : c.loop-remark.remark-index < length c.remarks-remark-items.result.now = omega arith in
    step_wrong start c.args.turn.now past c.remarks-remark-items.result.now c.loop-remark.remark-index c.remark-item.result c.loop-remark.docket c.note.new.self c.loop-remark.wanted.items c.note.new.wanted.items
    c.args.crowds.now c.in_ok-may.may within c.remark-item.is c.if-not-may.true are (c.loop-remark.invariant none start past is are) c.in_ok-may.ensures.notes

pub returns-in_err-may-clause-stopped : goal.returns-in_err-may-clause-stopped
returns-in_err-may-clause-stopped c = λ none start past is are.
    let within : c.loop-remark.remark-index < length c.remarks-remark-items.result.now = omega arith in
    let p = err_from_is_err_and c.from_residual.result c.from_residual.ensures.1 in
    if_err (λ fault. StopsAmong fault start c.args.turn.now past [] c.args.turn.now.remarks) c.from_residual.result c.in_err-may.field-0.0 p.0 p.1 p.2
    (step_stops start c.args.turn.now past c.remarks-remark-items.result.now c.loop-remark.remark-index c.remark-item.result c.loop-remark.docket c.note.new.self c.loop-remark.wanted.items c.note.new.wanted.items
    c.args.crowds.now c.in_err-may.field-0.0 within c.remark-item.is (c.loop-remark.invariant none start past is are) c.in_err-may.ensures.notes)

pub returns-clause-decides : goal.returns-clause-decides
returns-clause-decides c = λ none start past is are.
    let all : length c.remarks-remark-items.result.now ≤ c.loop-remark.remark-index = omega arith in
    (at_end start c.args.turn.now past c.remarks-remark-items.result.now c.loop-remark.remark-index c.loop-remark.docket c.loop-remark.wanted.items c.remarks-remark-items.ensures all (c.loop-remark.invariant none start past is are)).1

pub returns-clause-takes : goal.returns-clause-takes
returns-clause-takes c = λ none ok start past is are.
    let all : length c.remarks-remark-items.result.now ≤ c.loop-remark.remark-index = omega arith in
    (at_end start c.args.turn.now past c.remarks-remark-items.result.now c.loop-remark.remark-index c.loop-remark.docket c.loop-remark.wanted.items c.remarks-remark-items.ensures all (c.loop-remark.invariant none start past is are)).0
