use Rattle.std.proofs.Common.{◌≡◌, ◌++◌, arith}
use Rattle.slice.proofs.Flows.{flow_begins, flow_goes_on, flow_stops, flow_is_still, flow_is_full}
use Rattle.slice.proofs.Steps.{counts_from}
use Rattle.slice.proofs.perform.flow.Goals as goal

pub loop-i-init : goal.loop-i-init
loop-i-init g c = record { so = λ past s. flow_begins past c.args.world.now _ s; later = omega arith }

pub returns-in_default-clause-done : goal.returns-in_default-clause-done
returns-in_default-clause-done g c = λ past s. flow_is_still past c.loop-i._i c.args.most c.loop-i.world _ _ (c.loop-i.invariant.so past s) c.loop-i-test.true c.in_default.ensures

pub returns-in-Err-clause-done : goal.returns-in-Err-clause-done
returns-in-Err-clause-done g c = λ past s.
    let so = c.loop-i.invariant.so past s in
    flow_stops past c.loop-i._i c.in-Some.number c.loop-i.world _ _ so c.in-Some.ensures c.args.most c.loop-i-test.true c.in-Err.stop _ (c.in-Err.ensures.done (so.turns ++ past) so.stood)

pub returns-in-Err-clause-cause : goal.returns-in-Err-clause-cause
returns-in-Err-clause-cause g c = counts_from c.in-Err.stop _ _ _ c.loop-i.invariant.later c.in-Err.ensures.cause

pub loop-i-preserved : goal.loop-i-preserved
loop-i-preserved g c = record {
  so = λ past s.
      let so = c.loop-i.invariant.so past s in
      flow_goes_on past c.loop-i._i c.in-Some.number c.loop-i.world _ _ so c.in-Some.ensures c.give.new.world _ (c.in-Ok.ensures.done (so.turns ++ past) so.stood);
  later = omega (arith, c.loop-i.invariant.later, c.in-Ok.ensures.cause.later);
}

pub returns-clause-done : goal.returns-clause-done
returns-clause-done g c = λ past s.
    let all : c.loop-i._i ≡ c.args.most = omega arith in
    flow_is_full past c.loop-i._i c.args.most c.loop-i.world _ _ (c.loop-i.invariant.so past s) all
