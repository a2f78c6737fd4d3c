use Rattle.std.proofs.Common.{◌∙◌, ap, rules}
use Rattle.sl_model.specs.Plan.{run}
use Rattle.sl_model.specs.Volume.{sight}
use Rattle.sl_model.specs.Changing.{see_if}
use Rattle.sl_plain.proofs.ChangingRuns.{see_if_run}
use Rattle.sl_plain.proofs.renaming.see_if.Goals as goal

pub returns-in_err-n-in-Some : goal.returns-in_err-n-in-Some
returns-in_err-n-in-Some c = ap (λ o. run (sight c.args.volume.now) (see_if o)) c.in-Some.is ∙ see_if_run (sight c.args.volume.now) c.in-Some.e ∙ search rules

pub returns-in_ok-n-in-Some : goal.returns-in_ok-n-in-Some
returns-in_ok-n-in-Some c = ap (λ o. run (sight c.args.volume.now) (see_if o)) c.in-Some.is ∙ see_if_run (sight c.args.volume.now) c.in-Some.e ∙ search rules

pub returns-in-None : goal.returns-in-None
unfolding run see_if
returns-in-None c = ap (λ o. run (sight c.args.volume.now) (see_if o)) c.in-None.is ∙ search rules
