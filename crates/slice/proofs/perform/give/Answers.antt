use Rattle.sl_defs.specs.declared.event.Event.TheVariants as event
use Rattle.slice.proofs.Events.{no_line}
use Rattle.slice.proofs.perform.give.Goals as goal

pub returns-in-Err-clause-done : goal.returns-in-Err-clause-done
returns-in-Err-clause-done g c = λ past s. no_line c.args.world.now (event.Give c.args.number) past _ s
