use Rattle.std.proofs.Common.{◌∙◌, rules}
use Rattle.std.proofs.lemmas.Result.{err_from_is_err_and}
use Rattle.sl_model.specs.Volume.{sight}
use Rattle.sl_model.specs.Changing as changing
use Rattle.sl_plain.proofs.Runs.{with_handle_run}
use Rattle.sl_plain.proofs.changing.remove.Goals as goal

pub returns-in_err-h : goal.returns-in_err-h
returns-in_err-h c = let p = err_from_is_err_and c.from_residual.result c.from_residual.ensures.1 in rw (p.1, p.2) (with_handle_run (sight c.args.volume.now) c.args.dir.now (λ h. changing.remove c.args.cred.now h c.args.name.now c.args.now) ∙ search rules)

pub returns-in_err-place : goal.returns-in_err-place
returns-in_err-place c = let p = err_from_is_err_and c.from_residual-in_err-place.result c.from_residual-in_err-place.ensures.1 in rw (p.1, p.2) tt

pub returns-in_err-d : goal.returns-in_err-d
returns-in_err-d c = let p = err_from_is_err_and c.from_residual-in_err-d.result c.from_residual-in_err-d.ensures.1 in rw (p.1, p.2) (with_handle_run (sight c.args.volume.now) c.args.dir.now (λ h. changing.remove c.args.cred.now h c.args.name.now c.args.now) ∙ search rules)

pub returns-in_err-outcome : goal.returns-in_err-outcome
returns-in_err-outcome c = let p = err_from_is_err_and c.from_residual-in_err-outcome.result c.from_residual-in_err-outcome.ensures.1 in rw (p.1, p.2) tt

pub returns : goal.returns
returns c = with_handle_run (sight c.args.volume.now) c.args.dir.now (λ h. changing.remove c.args.cred.now h c.args.name.now c.args.now) ∙ search rules
