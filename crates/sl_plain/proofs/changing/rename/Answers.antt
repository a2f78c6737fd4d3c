use Rattle.std.proofs.Common.{◌∙◌, rules}
use Rattle.std.proofs.lemmas.Result.{err_from_is_err_and}
use Rattle.sl_model.specs.Volume.{sight}
use Rattle.sl_model.specs.Changing as changing
use Rattle.sl_plain.proofs.OutcomeLaws.{has_gives}
use Rattle.sl_plain.specs.Found as found
use Rattle.sl_plain.proofs.Runs.{with_handles_run}
use Rattle.sl_plain.proofs.changing.rename.Goals as goal

pub returns-in_err-a : goal.returns-in_err-a
returns-in_err-a c = let p = err_from_is_err_and c.from_residual.result c.from_residual.ensures.1 in rw (p.1, p.2) (with_handles_run (sight c.args.volume.now) c.args.from.now c.args.to.now (λ a b. changing.rename c.args.cred.now a c.args.name.now b c.args.to_name.now c.args.now) ∙ search rules)

pub returns-in_err-b : goal.returns-in_err-b
returns-in_err-b c = let p = err_from_is_err_and c.from_residual-in_err-b.result c.from_residual-in_err-b.ensures.1 in rw (p.1, p.2) (with_handles_run (sight c.args.volume.now) c.args.from.now c.args.to.now (λ a b. changing.rename c.args.cred.now a c.args.name.now b c.args.to_name.now c.args.now) ∙ search rules)

pub returns-in_err-place : goal.returns-in_err-place
returns-in_err-place c = let p = err_from_is_err_and c.from_residual-in_err-place.result c.from_residual-in_err-place.ensures.1 in rw (p.1, p.2) tt

pub returns-in_err-to_place : goal.returns-in_err-to_place
returns-in_err-to_place c = let p = err_from_is_err_and c.from_residual-in_err-to_place.result c.from_residual-in_err-to_place.ensures.1 in rw (p.1, p.2) tt

pub returns-in_err-at : goal.returns-in_err-at
returns-in_err-at c = let p = err_from_is_err_and c.from_residual-in_err-at.result c.from_residual-in_err-at.ensures.1 in rw (p.1, p.2) (with_handles_run (sight c.args.volume.now) c.args.from.now c.args.to.now (λ a b. changing.rename c.args.cred.now a c.args.name.now b c.args.to_name.now c.args.now) ∙ search rules)

pub returns : goal.returns
returns c = has_gives c.renamed.result (found.renamed c.as_slice-5.result.now c.as_slice-6.result.now c.args.now c.in_ok-at.at) _ c.renamed.ensures (with_handles_run (sight c.args.volume.now) c.args.from.now c.args.to.now (λ a b. changing.rename c.args.cred.now a c.args.name.now b c.args.to_name.now c.args.now) ∙ search rules)
