use Rattle.std.proofs.Common.{◌∙◌, rules}
use Rattle.sl_model.specs.Volume.{sight}
use Rattle.sl_plain.proofs.LookingRuns.{read_run}
use Rattle.sl_plain.proofs.walks.read.Goals as goal

pub returns-in_err-object : goal.returns-in_err-object
returns-in_err-object c = read_run (sight c.args.volume.now) c.args.cred.now c.args.h c.args.offset c.args.count ∙ search rules

pub returns-in_err-refuse : goal.returns-in_err-refuse
returns-in_err-refuse c = read_run (sight c.args.volume.now) c.args.cred.now c.args.h c.args.offset c.args.count ∙ search rules

pub returns : goal.returns
returns c = read_run (sight c.args.volume.now) c.args.cred.now c.args.h c.args.offset c.args.count ∙ search rules
