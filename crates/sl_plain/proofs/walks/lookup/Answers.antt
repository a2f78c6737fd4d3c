use Rattle.std.proofs.Common.{◌∙◌, rules}
use Rattle.sl_model.specs.Volume.{sight}
use Rattle.sl_plain.proofs.LookingRuns.{lookup_run}
use Rattle.sl_plain.proofs.walks.lookup.Goals as goal

pub returns-in_err-checked : goal.returns-in_err-checked
returns-in_err-checked c = lookup_run (sight c.args.volume.now) c.args.cred.now c.args.h c.args.place.now.name.items ∙ search rules

pub returns-in_err-d : goal.returns-in_err-d
returns-in_err-d c = lookup_run (sight c.args.volume.now) c.args.cred.now c.args.h c.args.place.now.name.items ∙ search rules

pub returns : goal.returns
returns c = lookup_run (sight c.args.volume.now) c.args.cred.now c.args.h c.args.place.now.name.items ∙ search rules
