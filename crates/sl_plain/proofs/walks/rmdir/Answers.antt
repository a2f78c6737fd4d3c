use Rattle.std.proofs.Common.{◌∙◌, rules}
use Rattle.sl_model.specs.Volume.{sight}
use Rattle.sl_plain.proofs.ChangingRuns.{rmdir_run}
use Rattle.sl_plain.proofs.walks.rmdir.Goals as goal

pub returns-in_err-checked : goal.returns-in_err-checked
returns-in_err-checked c = rmdir_run (sight c.args.volume.now) c.args.cred.now c.args.h c.args.place.now.name.items c.args._now ∙ search rules

pub returns-in_err-d : goal.returns-in_err-d
returns-in_err-d c = rmdir_run (sight c.args.volume.now) c.args.cred.now c.args.h c.args.place.now.name.items c.args._now ∙ search rules

pub returns-in_err-refuse : goal.returns-in_err-refuse
returns-in_err-refuse c = rmdir_run (sight c.args.volume.now) c.args.cred.now c.args.h c.args.place.now.name.items c.args._now ∙ search rules

pub returns-in_err-refuse-2 : goal.returns-in_err-refuse-2
returns-in_err-refuse-2 c = rmdir_run (sight c.args.volume.now) c.args.cred.now c.args.h c.args.place.now.name.items c.args._now ∙ search rules

pub returns-in_err-e : goal.returns-in_err-e
returns-in_err-e c = rmdir_run (sight c.args.volume.now) c.args.cred.now c.args.h c.args.place.now.name.items c.args._now ∙ search rules

pub returns-in_err-refuse-3 : goal.returns-in_err-refuse-3
returns-in_err-refuse-3 c = rmdir_run (sight c.args.volume.now) c.args.cred.now c.args.h c.args.place.now.name.items c.args._now ∙ search rules

pub returns-in_err-n : goal.returns-in_err-n
returns-in_err-n c = rmdir_run (sight c.args.volume.now) c.args.cred.now c.args.h c.args.place.now.name.items c.args._now ∙ search rules

pub returns-in_err-refuse-4 : goal.returns-in_err-refuse-4
returns-in_err-refuse-4 c = rmdir_run (sight c.args.volume.now) c.args.cred.now c.args.h c.args.place.now.name.items c.args._now ∙ search rules

pub returns : goal.returns
returns c = rmdir_run (sight c.args.volume.now) c.args.cred.now c.args.h c.args.place.now.name.items c.args._now ∙ search rules
