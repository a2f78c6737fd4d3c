use Rattle.std.proofs.Common.{◌∙◌, rules}
use Rattle.std.proofs.lemmas.Result.{err_from_is_err_and}
use Rattle.sl_model.specs.Volume.{sight}
use Rattle.sl_plain.proofs.ChangingRuns.{write_none_run}
use Rattle.sl_plain.proofs.changing.write_none.Goals as goal

pub returns-in_err-n : goal.returns-in_err-n
returns-in_err-n c = let p = err_from_is_err_and c.from_residual.result c.from_residual.ensures.1 in rw (p.1, p.2) (write_none_run (sight c.args.volume.now) c.args.h c.args.asked ∙ search rules)

pub returns : goal.returns
returns c = write_none_run (sight c.args.volume.now) c.args.h c.args.asked ∙ search rules
