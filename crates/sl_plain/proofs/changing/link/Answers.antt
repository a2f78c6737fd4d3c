use Rattle.std.proofs.Common.{◌∙◌, rules}
use Rattle.std.proofs.lemmas.Result.{err_from_is_err_and}
use Rattle.sl_model.specs.Volume.{sight}
use Rattle.sl_model.specs.Changing as changing
use Rattle.sl_plain.proofs.OutcomeLaws.{has_gives}
use Rattle.sl_plain.proofs.Runs.{with_handles_run}
use Rattle.sl_plain.proofs.changing.link.Goals as goal

pub returns-in_err-h : goal.returns-in_err-h
returns-in_err-h c = let p = err_from_is_err_and c.from_residual.result c.from_residual.ensures.1 in rw (p.1, p.2) (with_handles_run (sight c.args.volume.now) c.args.file.now c.args.dir.now (λ h to. changing.link c.args.cred.now h to c.args.name.now c.args.now) ∙ search rules)

pub returns-in_err-to : goal.returns-in_err-to
returns-in_err-to c = let p = err_from_is_err_and c.from_residual-in_err-to.result c.from_residual-in_err-to.ensures.1 in rw (p.1, p.2) (with_handles_run (sight c.args.volume.now) c.args.file.now c.args.dir.now (λ h to. changing.link c.args.cred.now h to c.args.name.now c.args.now) ∙ search rules)

pub returns-in_err-place : goal.returns-in_err-place
returns-in_err-place c = let p = err_from_is_err_and c.from_residual-in_err-place.result c.from_residual-in_err-place.ensures.1 in rw (p.1, p.2) tt

pub returns-in_err-d : goal.returns-in_err-d
returns-in_err-d c = let p = err_from_is_err_and c.from_residual-in_err-d.result c.from_residual-in_err-d.ensures.1 in rw (p.1, p.2) (with_handles_run (sight c.args.volume.now) c.args.file.now c.args.dir.now (λ h to. changing.link c.args.cred.now h to c.args.name.now c.args.now) ∙ search rules)

pub returns : goal.returns
returns c = has_gives c.linking.result (changing.linking c.in_ok-d.d c.as_slice-4.result.now c.in_ok-d.n c.args.now) _ c.linking.ensures (with_handles_run (sight c.args.volume.now) c.args.file.now c.args.dir.now (λ h to. changing.link c.args.cred.now h to c.args.name.now c.args.now) ∙ search rules)
