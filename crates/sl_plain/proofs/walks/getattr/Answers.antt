use Rattle.std.proofs.Common.{◌∙◌, rules}
use Rattle.sl_model.specs.Volume.{sight}
use Rattle.sl_plain.proofs.LookingRuns.{getattr_run}
use Rattle.sl_plain.proofs.walks.getattr.Goals as goal

pub returns-in_err-object : goal.returns-in_err-object
returns-in_err-object c = getattr_run (sight c.args.volume.now) c.args.cred.now c.args.h ∙ search rules

pub returns : goal.returns
returns c = getattr_run (sight c.args.volume.now) c.args.cred.now c.args.h ∙ search rules
