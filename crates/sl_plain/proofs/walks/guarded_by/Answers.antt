use Rattle.std.proofs.Common.{◌∙◌, rules}
use Rattle.sl_model.specs.Volume.{sight}
use Rattle.sl_plain.proofs.ChangingRuns.{guarded_by_run}
use Rattle.sl_plain.proofs.walks.guarded_by.Goals as goal

pub returns-in_err-n : goal.returns-in_err-n
returns-in_err-n c = guarded_by_run (sight c.args.volume.now) c.args.f c.args.t ∙ search rules

pub returns : goal.returns
returns c = guarded_by_run (sight c.args.volume.now) c.args.f c.args.t ∙ search rules
