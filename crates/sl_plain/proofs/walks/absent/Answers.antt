use Rattle.std.proofs.Common.{◌∙◌, rules}
use Rattle.sl_model.specs.Volume.{sight}
use Rattle.sl_plain.proofs.ChangingRuns.{absent_run}
use Rattle.sl_plain.proofs.walks.absent.Goals as goal

pub returns-in_err-refuse : goal.returns-in_err-refuse
returns-in_err-refuse c = absent_run (sight c.args.volume.now) c.args.h c.args.place.now.name.items ∙ search rules

pub returns : goal.returns
returns c = absent_run (sight c.args.volume.now) c.args.h c.args.place.now.name.items ∙ search rules
