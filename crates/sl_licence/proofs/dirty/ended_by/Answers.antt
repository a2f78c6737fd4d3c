use Rattle.std.proofs.Common.{[], sym, ◌∙◌}
use Rattle.std.specs.Option.{option_copied}
use Rattle.sl_history.specs.Turns.{begun}
use Rattle.sl_licence.proofs.Flowing.{ends_flush}
use Rattle.sl_licence.proofs.dirty.ended_by.Goals as goal

pub returns-then-is_decision : goal.returns-then-is_decision
returns-then-is_decision c = λ past happening moment is.
    ends_flush past happening moment c.in-Some.frame.now (option_copied c.request.result) c.flush_of.result
    (c.in-Some.ensures (record { happening = happening; moment = moment; remarks = [] }) past is) (sym c.is_decision.ensures ∙ c.if-is_decision.true)
    (c.request.ensures (begun past happening moment) is) c.flush_of.ensures
