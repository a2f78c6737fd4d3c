use Rattle.std.proofs.Common.{◌∙◌, ap, rules}
use Rattle.sl_model.specs.Plan.{run}
use Rattle.sl_model.specs.Volume.{sight}
use Rattle.sl_model.specs.Changing.{create_at}
use Rattle.sl_plain.proofs.ChangingRuns.{create_absent_run}
use Rattle.sl_plain.proofs.creating.create_at.Goals as goal

pub returns-in_err-refuse-in-None : goal.returns-in_err-refuse-in-None
unfolding create_at
returns-in_err-refuse-in-None c = ap (λ o. run (sight c.args.volume.now) (create_at c.args.d c.args._place.now.name.items c.args.how c.args._cred.now c.args.now c.args.choice o)) c.in-None.is ∙ create_absent_run (sight c.args.volume.now) c.args.d c.args._place.now.name.items c.args.how c.args._cred.now c.args.now c.args.choice ∙ search rules

pub returns-in_ok-refuse-in-None : goal.returns-in_ok-refuse-in-None
unfolding create_at
returns-in_ok-refuse-in-None c = ap (λ o. run (sight c.args.volume.now) (create_at c.args.d c.args._place.now.name.items c.args.how c.args._cred.now c.args.now c.args.choice o)) c.in-None.is ∙ create_absent_run (sight c.args.volume.now) c.args.d c.args._place.now.name.items c.args.how c.args._cred.now c.args.now c.args.choice ∙ search rules
