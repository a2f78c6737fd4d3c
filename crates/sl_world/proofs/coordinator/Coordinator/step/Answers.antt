use Rattle.sl_world.proofs.Welcoming.{gives_step}
use Rattle.sl_world.proofs.coordinator.Coordinator.step.Goals as goal

pub returns-in_ok-greet-in-Hello : goal.returns-in_ok-greet-in-Hello
returns-in_ok-greet-in-Hello c = record {
  gives =
      let greets = c.in_ok-greet-in-Hello.ensures
      in gives_step c.args.self.now c.greet.new.self c.args.frame.now c.in_ok-greet-in-Hello.field-0 c.in-Hello.is greets.sent greets.noted greets.held;
}
