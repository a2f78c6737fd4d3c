use Rattle.std.proofs.Common.{◌∙◌, rules}
use Rattle.sl_model.specs.Volume.{sight}
use Rattle.sl_plain.proofs.ChangingRuns.{rename_to_run}
use Rattle.sl_plain.proofs.renaming.rename_to.Goals as goal

pub returns-in_err-refuse : goal.returns-in_err-refuse
returns-in_err-refuse c = rename_to_run (sight c.args.volume.now) c.args.from c.args._from_place.now.name.items c.args.to c.args._to_place.now.name.items c.args.e c.args.there c.args._now ∙ search rules

pub returns-in_err-object : goal.returns-in_err-object
returns-in_err-object c = rename_to_run (sight c.args.volume.now) c.args.from c.args._from_place.now.name.items c.args.to c.args._to_place.now.name.items c.args.e c.args.there c.args._now ∙ search rules

pub returns-in_err-target : goal.returns-in_err-target
returns-in_err-target c = rename_to_run (sight c.args.volume.now) c.args.from c.args._from_place.now.name.items c.args.to c.args._to_place.now.name.items c.args.e c.args.there c.args._now ∙ search rules

pub returns-in_err-refuse-2 : goal.returns-in_err-refuse-2
returns-in_err-refuse-2 c = rename_to_run (sight c.args.volume.now) c.args.from c.args._from_place.now.name.items c.args.to c.args._to_place.now.name.items c.args.e c.args.there c.args._now ∙ search rules

pub returns-in_err-refuse-3 : goal.returns-in_err-refuse-3
returns-in_err-refuse-3 c = rename_to_run (sight c.args.volume.now) c.args.from c.args._from_place.now.name.items c.args.to c.args._to_place.now.name.items c.args.e c.args.there c.args._now ∙ search rules

pub returns : goal.returns
returns c = rename_to_run (sight c.args.volume.now) c.args.from c.args._from_place.now.name.items c.args.to c.args._to_place.now.name.items c.args.e c.args.there c.args._now ∙ search rules
