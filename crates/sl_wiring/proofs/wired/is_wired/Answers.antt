use Rattle.sl_wiring.proofs.wired.is_wired.Goals as goal

pub returns-clause-stopped : goal.returns-clause-stopped
returns-clause-stopped c = c.are_wired.ensures.stopped c.args.setup c.args.start c.in-Ok.ensures
