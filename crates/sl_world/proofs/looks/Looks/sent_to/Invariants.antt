use Rattle.sl_world.specs.Proxying.{IsOut}
use Rattle.sl_world.proofs.Trees.{first_out}
use Rattle.sl_world.proofs.looks.Looks.sent_to.Given as goal

-- the first that is left is the first of all
abbrev pub invariant-loop-event : goal.invariant-loop-event
invariant-loop-event l = IsOut l.self l.server l.tag (first_out l.server l.tag l.event-iterator)
