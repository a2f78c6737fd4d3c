use Rattle.std.proofs.Common.{◌∙◌, rules}
use Rattle.std.proofs.lemmas.Result.{err_from_is_err_and}
use Rattle.sl_model.specs.Volume.{sight}
use Rattle.sl_model.specs.Changing as changing
use Rattle.sl_plain.proofs.OutcomeLaws.{has_gives}
use Rattle.sl_plain.specs.Found as found
use Rattle.sl_plain.proofs.Runs.{with_handle_run}
use Rattle.sl_plain.proofs.changing.create.Goals as goal

pub returns-in_err-h : goal.returns-in_err-h
returns-in_err-h c = let p = err_from_is_err_and c.from_residual.result c.from_residual.ensures.1 in rw (p.1, p.2) (with_handle_run (sight c.args.volume.now) c.args.dir.now (λ h. changing.create c.args.cred.now h c.args.name.now c.args.how c.args.now c.args.choice) ∙ search rules)

pub returns-in_err-place : goal.returns-in_err-place
returns-in_err-place c = let p = err_from_is_err_and c.from_residual-in_err-place.result c.from_residual-in_err-place.ensures.1 in rw (p.1, p.2) tt

pub returns-in_err-at : goal.returns-in_err-at
returns-in_err-at c = let p = err_from_is_err_and c.from_residual-in_err-at.result c.from_residual-in_err-at.ensures.1 in rw (p.1, p.2) (with_handle_run (sight c.args.volume.now) c.args.dir.now (λ h. changing.create c.args.cred.now h c.args.name.now c.args.how c.args.now c.args.choice) ∙ search rules)

pub returns : goal.returns
returns c = has_gives c.created.result (found.created c.as_slice-3.result.now c.args.how c.args.cred.now c.args.now c.args.choice.fileid c.in_ok-at.at) _ c.created.ensures (with_handle_run (sight c.args.volume.now) c.args.dir.now (λ h. changing.create c.args.cred.now h c.args.name.now c.args.how c.args.now c.args.choice) ∙ search rules)
