use Rattle.std.proofs.Common.{◌∙◌, rules}
use Rattle.std.proofs.lemmas.Result.{err_from_is_err_and}
use Rattle.sl_model.specs.Volume.{sight}
use Rattle.sl_model.specs.Looking as looking
use Rattle.sl_plain.proofs.Runs.{with_handle_run}
use Rattle.sl_plain.proofs.looking.read.Goals as goal

pub returns-in_err-h : goal.returns-in_err-h
returns-in_err-h c = let p = err_from_is_err_and c.from_residual.result c.from_residual.ensures.1 in rw (p.1, p.2) (with_handle_run (sight c.args.volume.now) c.args.file.now (λ h. looking.read c.args.cred.now h c.args.offset c.args.count) ∙ search rules)

pub returns-in_err-n : goal.returns-in_err-n
returns-in_err-n c = let p = err_from_is_err_and c.from_residual-in_err-n.result c.from_residual-in_err-n.ensures.1 in rw (p.1, p.2) (with_handle_run (sight c.args.volume.now) c.args.file.now (λ h. looking.read c.args.cred.now h c.args.offset c.args.count) ∙ search rules)

pub returns-in_err-outcome : goal.returns-in_err-outcome
returns-in_err-outcome c = let p = err_from_is_err_and c.from_residual-in_err-outcome.result c.from_residual-in_err-outcome.ensures.1 in rw (p.1, p.2) tt

pub returns : goal.returns
returns c = with_handle_run (sight c.args.volume.now) c.args.file.now (λ h. looking.read c.args.cred.now h c.args.offset c.args.count) ∙ search rules
