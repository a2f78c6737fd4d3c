use Rattle.std.proofs.Common.{◌∙◌, rules}
use Rattle.sl_model.specs.Volume.{sight}
use Rattle.sl_plain.proofs.LookingRuns.{directory_run}
use Rattle.sl_plain.proofs.walks.directory.Goals as goal

pub returns-in_err-d : goal.returns-in_err-d
returns-in_err-d c = directory_run (sight c.args.volume.now) c.args.cred.now c.args.h ∙ search rules

pub returns-in_err-refuse : goal.returns-in_err-refuse
returns-in_err-refuse c = directory_run (sight c.args.volume.now) c.args.cred.now c.args.h ∙ search rules

pub returns : goal.returns
returns c = directory_run (sight c.args.volume.now) c.args.cred.now c.args.h ∙ search rules
