use Rattle.std.proofs.Common.{◌∙◌, rules}
use Rattle.std.proofs.lemmas.Result.{err_from_is_err_and}
use Rattle.sl_model.specs.Volume.{sight}
use Rattle.sl_plain.proofs.LookingRuns.{listing_fit_run}
use Rattle.sl_plain.proofs.listing.list.Goals as goal

pub returns-in_err-d : goal.returns-in_err-d
returns-in_err-d c = let p = err_from_is_err_and c.from_residual.result c.from_residual.ensures.1 in rw (p.1, p.2) (listing_fit_run (sight c.args.volume.now) c.args.cred.now c.args.h c.args.cookie c.args.verifier c.args.fixed c.args.count ∙ search rules)

pub returns-in_err-refuse : goal.returns-in_err-refuse
returns-in_err-refuse c = let p = err_from_is_err_and c.from_residual-in_err-refuse.result c.from_residual-in_err-refuse.ensures.1 in rw (p.1, p.2) (listing_fit_run (sight c.args.volume.now) c.args.cred.now c.args.h c.args.cookie c.args.verifier c.args.fixed c.args.count ∙ search rules)

pub returns-in_err-all : goal.returns-in_err-all
returns-in_err-all c = let p = err_from_is_err_and c.from_residual-in_err-all.result c.from_residual-in_err-all.ensures.1 in rw (p.1, p.2) tt

pub returns-in_err-fitted : goal.returns-in_err-fitted
returns-in_err-fitted c = let p = err_from_is_err_and c.from_residual-in_err-fitted.result c.from_residual-in_err-fitted.ensures.1 in rw (p.1, p.2) (listing_fit_run (sight c.args.volume.now) c.args.cred.now c.args.h c.args.cookie c.args.verifier c.args.fixed c.args.count ∙ search rules)

pub returns : goal.returns
returns c = listing_fit_run (sight c.args.volume.now) c.args.cred.now c.args.h c.args.cookie c.args.verifier c.args.fixed c.args.count ∙ search rules
