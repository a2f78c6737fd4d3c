use Rattle.std.proofs.Common.{◌∙◌, rules}
use Rattle.std.proofs.lemmas.Result.{err_from_is_err_and}
use Rattle.sl_model.specs.Volume.{sight}
use Rattle.std.proofs.Common.{Ok}
use Rattle.sl_model.specs.Plan.{run}
use Rattle.sl_model.specs.Looking as looking
use Rattle.sl_plain.proofs.LookingRuns.{readdir_handle_run}
use Rattle.sl_plain.proofs.OutcomeLaws.{gives_err}
use Rattle.sl_plain.specs.Found as found
use Rattle.sl_plain.proofs.looking.readdir.Goals as goal

pub returns-in_err-h : goal.returns-in_err-h
returns-in_err-h c = let p = err_from_is_err_and c.from_residual.result c.from_residual.ensures.1 in rw (p.1, p.2) (readdir_handle_run (sight c.args.volume.now) c.args.dir.now c.args.cred.now c.args.cookie c.args.verifier c.args.count ∙ search rules)

pub returns-in_err-l : goal.returns-in_err-l
returns-in_err-l c = let p = err_from_is_err_and c.from_residual-in_err-l.result c.from_residual-in_err-l.ensures.1 in rw (p.1, p.2) (gives_err found.listing c.in_err-l.field-0.0 (run (sight c.args.volume.now) (looking.listing c.args.cred.now c.in_ok-h.h c.args.cookie c.args.verifier 24 c.args.count)) (λ l. Ok (found.readdir_reply l)) _ c.in_err-l.ensures (readdir_handle_run (sight c.args.volume.now) c.args.dir.now c.args.cred.now c.args.cookie c.args.verifier c.args.count ∙ search rules))

pub returns-in_err-entries : goal.returns-in_err-entries
returns-in_err-entries c = let p = err_from_is_err_and c.from_residual-in_err-entries.result c.from_residual-in_err-entries.ensures.1 in rw (p.1, p.2) tt

pub returns : goal.returns
returns c = readdir_handle_run (sight c.args.volume.now) c.args.dir.now c.args.cred.now c.args.cookie c.args.verifier c.args.count ∙ search rules
