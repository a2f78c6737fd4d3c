use Rattle.std.proofs.Common.{[], sym}
use Rattle.sl_history.specs.Turns.{begun}
use Rattle.sl_licence.proofs.Flushing.{begins_with, begins_without, few_unused}
use Rattle.sl_licence.proofs.Saying.{on_ok_one}
use Rattle.sl_licence.proofs.flushes.Flushes.begin.Goals as goal

pub returns-in-Some : goal.returns-in-Some
returns-in-Some c =
    on_ok_one c.reach.result (λ takes past happening moment is are.
    let reached = c.in-Some.ensures (record { happening = happening; moment = moment; remarks = [] }) past is in
    begins_with past happening moment c.in-Some.frame.now c.args.self.now c.reach.new.self (sym reached)
    (takes (λ f. few_unused past happening moment c.in-Some.frame.now c.args.self.now f c.events-events.result (sym reached) (c.events-events.ensures (begun past happening moment) is) are)) are) c.reach.ensures

pub returns-in-None : goal.returns-in-None
returns-in-None c = λ past happening moment is are.
    begins_without past happening moment c.args.self.now (sym (c.in-None.ensures (record { happening = happening; moment = moment; remarks = [] }) past is)) are
