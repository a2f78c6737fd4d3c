use Rattle.std.proofs.Common.{◌∙◌, rules}
use Rattle.sl_model.specs.Volume.{sight}
use Rattle.sl_plain.proofs.ChangingRuns.{setattr_run}
use Rattle.sl_plain.proofs.walks.setattr.Goals as goal

pub returns-in_err-refuse : goal.returns-in_err-refuse
returns-in_err-refuse c = setattr_run (sight c.args.volume.now) c.args.cred.now c.args.h c.args.s c.args.guard c.args._now ∙ search rules

pub returns-in_err-object : goal.returns-in_err-object
returns-in_err-object c = setattr_run (sight c.args.volume.now) c.args.cred.now c.args.h c.args.s c.args.guard c.args._now ∙ search rules

pub returns-in_err-guarded : goal.returns-in_err-guarded
returns-in_err-guarded c = setattr_run (sight c.args.volume.now) c.args.cred.now c.args.h c.args.s c.args.guard c.args._now ∙ search rules

pub returns-in_err-refuse-2 : goal.returns-in_err-refuse-2
returns-in_err-refuse-2 c = setattr_run (sight c.args.volume.now) c.args.cred.now c.args.h c.args.s c.args.guard c.args._now ∙ search rules

pub returns-in_err-refuse-3 : goal.returns-in_err-refuse-3
returns-in_err-refuse-3 c = setattr_run (sight c.args.volume.now) c.args.cred.now c.args.h c.args.s c.args.guard c.args._now ∙ search rules

pub returns : goal.returns
returns c = setattr_run (sight c.args.volume.now) c.args.cred.now c.args.h c.args.s c.args.guard c.args._now ∙ search rules
