use Rattle.std.proofs.Common.{◌<◌, length, sym, ◌∙◌, arith}
use Rattle.std.proofs.lemmas.Bool.{true≢false}
use Rattle.sl_licence.proofs.Turning.{due_at, due_next}
use Rattle.sl_licence.proofs.licensed.are_due.Goals as goal

pub returns-in-Ok-false-clause-decides : goal.returns-in-Ok-false-clause-decides
returns-in-Ok-false-clause-decides c = λ start h is due.
    let within : c.loop-request.request-index < length c.args.requests.now = omega arith in
    true≢false (sym ((c.in-Ok-false.ensures start h is).1 (due_at start h c.args.requests.now c.loop-request.request-index _ within due)) ∙ c.in-Ok-false.field-0-test)

pub loop-request-preserved : goal.loop-request-preserved
loop-request-preserved c = λ start h is.
    let within : c.loop-request.request-index < length c.args.requests.now = omega arith in
    due_next start h c.args.requests.now c.loop-request.request-index _ within (c.loop-request.invariant start h is) ((c.in-Ok-true.ensures start h is).0 c.in-Ok-true.field-0-test)
