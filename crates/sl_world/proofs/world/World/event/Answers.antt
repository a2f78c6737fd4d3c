use Rattle.std.proofs.Common.{rules}
use Rattle.sl_world.specs.Worlds.{GivesEvent}
use Rattle.sl_world.proofs.Performing.{follows_event}
use Rattle.sl_world.proofs.world.World.event.Goals as goal

pub returns-in-Call-clause-follows : goal.returns-in-Call-clause-follows
returns-in-Call-clause-follows c =
    let gives : GivesEvent c.args.self.now c.call.new.self c.args.event.now c.call.result = search rules in
    follows_event c.args.self.now c.call.new.self c.args.event.now c.call.result gives

pub returns-in-Give-clause-follows : goal.returns-in-Give-clause-follows
returns-in-Give-clause-follows c =
    let gives : GivesEvent c.args.self.now c.give.new.self c.args.event.now c.give.result = search rules in
    follows_event c.args.self.now c.give.new.self c.args.event.now c.give.result gives
