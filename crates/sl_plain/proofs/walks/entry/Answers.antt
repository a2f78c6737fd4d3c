use Rattle.std.proofs.Common.{◌∙◌, sym, ap, rules}
use Rattle.sl_model.specs.Plan.{run}
use Rattle.sl_model.specs.Volume.{sight}
use Rattle.sl_model.specs.Checks as checks
use Rattle.sl_plain.proofs.walks.entry.Goals as goal

pub returns-in-Some : goal.returns-in-Some
unfolding run
returns-in-Some c = ap (λ d. run (sight c.args.volume.now) (checks.entry d c.args.place.now.name.items)) (sym c.requires) ∙ search rules

pub returns-in-None : goal.returns-in-None
unfolding run
returns-in-None c = ap (λ d. run (sight c.args.volume.now) (checks.entry d c.args.place.now.name.items)) (sym c.requires) ∙ search rules
