use Rattle.std.proofs.Common.{◌∙◌, rules}
use Rattle.sl_model.specs.Volume.{sight}
use Rattle.sl_plain.proofs.ChangingRuns.{rename_run}
use Rattle.sl_plain.proofs.renaming.rename.Goals as goal

pub returns-in_err-checked_both : goal.returns-in_err-checked_both
returns-in_err-checked_both c = rename_run (sight c.args.volume.now) c.args._cred.now c.args.a c.args.from_place.now.name.items c.args.b c.args.to_place.now.name.items c.args.now ∙ search rules

pub returns-in_err-from : goal.returns-in_err-from
returns-in_err-from c = rename_run (sight c.args.volume.now) c.args._cred.now c.args.a c.args.from_place.now.name.items c.args.b c.args.to_place.now.name.items c.args.now ∙ search rules

pub returns-in_err-to : goal.returns-in_err-to
returns-in_err-to c = rename_run (sight c.args.volume.now) c.args._cred.now c.args.a c.args.from_place.now.name.items c.args.b c.args.to_place.now.name.items c.args.now ∙ search rules

pub returns-in_err-refuse : goal.returns-in_err-refuse
returns-in_err-refuse c = rename_run (sight c.args.volume.now) c.args._cred.now c.args.a c.args.from_place.now.name.items c.args.b c.args.to_place.now.name.items c.args.now ∙ search rules

pub returns-in_err-refuse-2 : goal.returns-in_err-refuse-2
returns-in_err-refuse-2 c = rename_run (sight c.args.volume.now) c.args._cred.now c.args.a c.args.from_place.now.name.items c.args.b c.args.to_place.now.name.items c.args.now ∙ search rules

pub returns-in_err-refuse-3 : goal.returns-in_err-refuse-3
returns-in_err-refuse-3 c = rename_run (sight c.args.volume.now) c.args._cred.now c.args.a c.args.from_place.now.name.items c.args.b c.args.to_place.now.name.items c.args.now ∙ search rules

pub returns-in_err-e : goal.returns-in_err-e
returns-in_err-e c = rename_run (sight c.args.volume.now) c.args._cred.now c.args.a c.args.from_place.now.name.items c.args.b c.args.to_place.now.name.items c.args.now ∙ search rules

pub returns : goal.returns
returns c = rename_run (sight c.args.volume.now) c.args._cred.now c.args.a c.args.from_place.now.name.items c.args.b c.args.to_place.now.name.items c.args.now ∙ search rules
