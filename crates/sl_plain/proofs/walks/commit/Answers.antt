use Rattle.std.proofs.Common.{◌∙◌, rules}
use Rattle.sl_model.specs.Volume.{sight}
use Rattle.sl_plain.proofs.LookingRuns.{commit_run}
use Rattle.sl_plain.proofs.walks.commit.Goals as goal

pub returns-in_err-object : goal.returns-in_err-object
returns-in_err-object c = commit_run (sight c.args.volume.now) c.args.cred.now c.args.h ∙ search rules

pub returns-in_err-refuse : goal.returns-in_err-refuse
returns-in_err-refuse c = commit_run (sight c.args.volume.now) c.args.cred.now c.args.h ∙ search rules

pub returns : goal.returns
returns c = commit_run (sight c.args.volume.now) c.args.cred.now c.args.h ∙ search rules
