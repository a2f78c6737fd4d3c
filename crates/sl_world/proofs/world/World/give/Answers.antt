use Rattle.std.proofs.Common.{sym, ◌∙◌}
use Rattle.std.proofs.lemmas.Result.{err_from_is_err_and}
use Rattle.sl_world.proofs.Performing.{begins_landed, give_failed, give_gives, unknown}
use Rattle.sl_world.proofs.world.World.give.Goals as goal

pub returns-in_default : goal.returns-in_default
returns-in_default c = record { gives = unknown c.args.self.now c.args.number c.take.new.self c.take.result c.take.ensures.taken c.take.ensures.value c.in_default.not-Some }

pub returns-in_err-step : goal.returns-in_err-step
returns-in_err-step c =
    let p = err_from_is_err_and c.from_residual-in_err-step.result c.from_residual-in_err-step.ensures.1 in
    record {
      gives = give_failed c.args.self.now c.hand.new.self c.begin.new.self c.hand.new.self c.args.number c.in-Some.flying c.hand.result _ c.from_residual-in_err-step.result p.0
          (sym c.take.ensures.value ∙ c.in-Some.is) (begins_landed c.args.self.now c.begin.new.self c.args.number c.take.new.self c.take.ensures.taken c.in_ok-begin.ensures.0)
          c.hand.ensures c.in_err-step.was p.1 p.2;
    }

pub returns : goal.returns
returns c = record {
  gives = give_gives c.args.self.now c.finish.new.self c.begin.new.self c.hand.new.self c.args.number c.in-Some.flying c.in_ok-step.step c.in_ok-finish.field-0
      (sym c.take.ensures.value ∙ c.in-Some.is) (begins_landed c.args.self.now c.begin.new.self c.args.number c.take.new.self c.take.ensures.taken c.in_ok-begin.ensures.0)
      c.in_ok-step.ensures c.in_ok-finish.ensures.sent c.in_ok-finish.ensures.noted;
}
