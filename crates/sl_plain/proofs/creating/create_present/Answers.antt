use Rattle.std.proofs.Common.{◌∙◌, rules}
use Rattle.sl_model.specs.Volume.{sight}
use Rattle.sl_plain.proofs.ChangingRuns.{create_present_run}
use Rattle.sl_plain.proofs.creating.create_present.Goals as goal

pub returns-in_err-refuse : goal.returns-in_err-refuse
returns-in_err-refuse c = create_present_run (sight c.args.volume.now) c.args.e c.args.how c.args._now ∙ search rules

pub returns-in_err-n : goal.returns-in_err-n
returns-in_err-n c = create_present_run (sight c.args.volume.now) c.args.e c.args.how c.args._now ∙ search rules

pub returns-in_err-refuse-2 : goal.returns-in_err-refuse-2
returns-in_err-refuse-2 c = create_present_run (sight c.args.volume.now) c.args.e c.args.how c.args._now ∙ search rules

pub returns : goal.returns
returns c = create_present_run (sight c.args.volume.now) c.args.e c.args.how c.args._now ∙ search rules
