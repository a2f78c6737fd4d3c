use Rattle.std.proofs.Common.{◌∙◌, rules}
use Rattle.sl_model.specs.Volume.{sight}
use Rattle.sl_plain.proofs.LookingRuns.{lookup_name_run}
use Rattle.sl_plain.proofs.walks.lookup_name.Goals as goal

pub returns-in_err-e : goal.returns-in_err-e
returns-in_err-e c = lookup_name_run (sight c.args.volume.now) c.args.h c.args.place.now.name.items ∙ search rules

pub returns-in_err-n : goal.returns-in_err-n
returns-in_err-n c = lookup_name_run (sight c.args.volume.now) c.args.h c.args.place.now.name.items ∙ search rules

pub returns : goal.returns
returns c = lookup_name_run (sight c.args.volume.now) c.args.h c.args.place.now.name.items ∙ search rules
