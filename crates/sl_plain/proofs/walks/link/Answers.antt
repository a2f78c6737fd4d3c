use Rattle.std.proofs.Common.{◌∙◌, rules}
use Rattle.sl_model.specs.Volume.{sight}
use Rattle.sl_plain.proofs.ChangingRuns.{link_run}
use Rattle.sl_plain.proofs.walks.link.Goals as goal

pub returns-in_err-checked : goal.returns-in_err-checked
returns-in_err-checked c = link_run (sight c.args.volume.now) c.args.cred.now c.args.h c.args.to c.args.place.now.name.items c.args._now ∙ search rules

pub returns-in_err-o : goal.returns-in_err-o
returns-in_err-o c = link_run (sight c.args.volume.now) c.args.cred.now c.args.h c.args.to c.args.place.now.name.items c.args._now ∙ search rules

pub returns-in_err-d : goal.returns-in_err-d
returns-in_err-d c = link_run (sight c.args.volume.now) c.args.cred.now c.args.h c.args.to c.args.place.now.name.items c.args._now ∙ search rules

pub returns-in_err-refuse : goal.returns-in_err-refuse
returns-in_err-refuse c = link_run (sight c.args.volume.now) c.args.cred.now c.args.h c.args.to c.args.place.now.name.items c.args._now ∙ search rules

pub returns-in_err-refuse-2 : goal.returns-in_err-refuse-2
returns-in_err-refuse-2 c = link_run (sight c.args.volume.now) c.args.cred.now c.args.h c.args.to c.args.place.now.name.items c.args._now ∙ search rules

pub returns-in_err-absent : goal.returns-in_err-absent
returns-in_err-absent c = link_run (sight c.args.volume.now) c.args.cred.now c.args.h c.args.to c.args.place.now.name.items c.args._now ∙ search rules

pub returns-in_err-refuse-3 : goal.returns-in_err-refuse-3
returns-in_err-refuse-3 c = link_run (sight c.args.volume.now) c.args.cred.now c.args.h c.args.to c.args.place.now.name.items c.args._now ∙ search rules

pub returns-in_err-n : goal.returns-in_err-n
returns-in_err-n c = link_run (sight c.args.volume.now) c.args.cred.now c.args.h c.args.to c.args.place.now.name.items c.args._now ∙ search rules

pub returns : goal.returns
returns c = link_run (sight c.args.volume.now) c.args.cred.now c.args.h c.args.to c.args.place.now.name.items c.args._now ∙ search rules
