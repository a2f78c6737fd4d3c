use Rattle.std.proofs.Common.{◌∙◌, rules}
use Rattle.sl_model.specs.Volume.{sight}
use Rattle.sl_plain.proofs.LookingRuns.{readlink_run}
use Rattle.sl_plain.proofs.walks.readlink.Goals as goal

pub returns-in_err-n : goal.returns-in_err-n
returns-in_err-n c = readlink_run (sight c.args.volume.now) c.args.cred.now c.args.h ∙ search rules

pub returns-in_err-refuse : goal.returns-in_err-refuse
returns-in_err-refuse c = readlink_run (sight c.args.volume.now) c.args.cred.now c.args.h ∙ search rules

pub returns : goal.returns
returns c = readlink_run (sight c.args.volume.now) c.args.cred.now c.args.h ∙ search rules
