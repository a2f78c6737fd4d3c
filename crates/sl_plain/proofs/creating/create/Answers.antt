use Rattle.std.proofs.Common.{◌∙◌, rules}
use Rattle.sl_model.specs.Volume.{sight}
use Rattle.sl_plain.proofs.ChangingRuns.{create_run}
use Rattle.sl_plain.proofs.creating.create.Goals as goal

pub returns-in_err-checked : goal.returns-in_err-checked
returns-in_err-checked c = create_run (sight c.args.volume.now) c.args.cred.now c.args.to c.args.place.now.name.items c.args.how c.args.now c.args.choice ∙ search rules

pub returns-in_err-refuse : goal.returns-in_err-refuse
returns-in_err-refuse c = create_run (sight c.args.volume.now) c.args.cred.now c.args.to c.args.place.now.name.items c.args.how c.args.now c.args.choice ∙ search rules

pub returns-in_err-d : goal.returns-in_err-d
returns-in_err-d c = create_run (sight c.args.volume.now) c.args.cred.now c.args.to c.args.place.now.name.items c.args.how c.args.now c.args.choice ∙ search rules

pub returns-in_err-refuse-2 : goal.returns-in_err-refuse-2
returns-in_err-refuse-2 c = create_run (sight c.args.volume.now) c.args.cred.now c.args.to c.args.place.now.name.items c.args.how c.args.now c.args.choice ∙ search rules

pub returns-in_err-refuse-3 : goal.returns-in_err-refuse-3
returns-in_err-refuse-3 c = create_run (sight c.args.volume.now) c.args.cred.now c.args.to c.args.place.now.name.items c.args.how c.args.now c.args.choice ∙ search rules

pub returns : goal.returns
returns c = create_run (sight c.args.volume.now) c.args.cred.now c.args.to c.args.place.now.name.items c.args.how c.args.now c.args.choice ∙ search rules
