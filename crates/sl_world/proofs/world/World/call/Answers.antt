use Rattle.std.proofs.Common.{refl}
use Rattle.sl_world.proofs.Performing.{call_gives}
use Rattle.sl_world.proofs.world.World.call.Goals as goal

pub returns : goal.returns
returns c = record {
  gives = call_gives c.args.self.now c.finish.new.self c.begin.new.self (record c.begin.new.self { proxy = c.arrive.new.self }) c.args.client c.args.bytes.now c.in_ok-step.step c.in_ok-finish.field-0
      c.in_ok-begin.ensures.0 c.in_ok-step.ensures.gives refl c.in_ok-finish.ensures.sent c.in_ok-finish.ensures.noted;
}
