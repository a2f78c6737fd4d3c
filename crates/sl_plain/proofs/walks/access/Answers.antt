use Rattle.std.proofs.Common.{◌∙◌, rules}
use Rattle.sl_model.specs.Volume.{sight}
use Rattle.sl_plain.proofs.LookingRuns.{access_run}
use Rattle.sl_plain.proofs.walks.access.Goals as goal

pub returns-in_err-object : goal.returns-in_err-object
returns-in_err-object c = access_run (sight c.args.volume.now) c.args.cred.now c.args.h c.args.bits ∙ search rules

pub returns : goal.returns
returns c = access_run (sight c.args.volume.now) c.args.cred.now c.args.h c.args.bits ∙ search rules
