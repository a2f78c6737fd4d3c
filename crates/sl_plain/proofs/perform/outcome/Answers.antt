use Rattle.std.proofs.Common.{rules}
use Rattle.sl_model.specs.Plan.{run}
use Rattle.sl_plain.proofs.perform.outcome.Goals as goal

pub returns-in-Null : goal.returns-in-Null
unfolding run
returns-in-Null c = search rules
