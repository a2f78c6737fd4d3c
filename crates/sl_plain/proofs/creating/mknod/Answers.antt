use Rattle.std.proofs.Common.{◌∙◌, rules}
use Rattle.sl_model.specs.Volume.{sight}
use Rattle.sl_plain.proofs.ChangingRuns.{mknod_run}
use Rattle.sl_plain.proofs.creating.mknod.Goals as goal

pub returns-in_err-checked : goal.returns-in_err-checked
returns-in_err-checked c = mknod_run (sight c.args.volume.now) c.args.cred.now c.args.to c.args.place.now.name.items c.args.what c.args._now c.args.choice ∙ search rules

pub returns-in_err-refuse : goal.returns-in_err-refuse
returns-in_err-refuse c = mknod_run (sight c.args.volume.now) c.args.cred.now c.args.to c.args.place.now.name.items c.args.what c.args._now c.args.choice ∙ search rules

pub returns-in_err-d : goal.returns-in_err-d
returns-in_err-d c = mknod_run (sight c.args.volume.now) c.args.cred.now c.args.to c.args.place.now.name.items c.args.what c.args._now c.args.choice ∙ search rules

pub returns-in_err-s : goal.returns-in_err-s
returns-in_err-s c = mknod_run (sight c.args.volume.now) c.args.cred.now c.args.to c.args.place.now.name.items c.args.what c.args._now c.args.choice ∙ search rules

pub returns-in_err-absent : goal.returns-in_err-absent
returns-in_err-absent c = mknod_run (sight c.args.volume.now) c.args.cred.now c.args.to c.args.place.now.name.items c.args.what c.args._now c.args.choice ∙ search rules

pub returns-in_err-refuse-2 : goal.returns-in_err-refuse-2
returns-in_err-refuse-2 c = mknod_run (sight c.args.volume.now) c.args.cred.now c.args.to c.args.place.now.name.items c.args.what c.args._now c.args.choice ∙ search rules

pub returns : goal.returns
returns c = mknod_run (sight c.args.volume.now) c.args.cred.now c.args.to c.args.place.now.name.items c.args.what c.args._now c.args.choice ∙ search rules
