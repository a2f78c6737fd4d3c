use Rattle.std.proofs.Common.{◌∙◌, rules}
use Rattle.std.proofs.lemmas.Result.{err_from_is_err_and}
use Rattle.sl_model.specs.Volume.{sight}
use Rattle.sl_plain.proofs.ChangingRuns.{write_handle_run}
use Rattle.sl_plain.proofs.OutcomeLaws.{gives_same}
use Rattle.sl_plain.proofs.changing.write.Goals as goal

pub returns-in_err-h : goal.returns-in_err-h
returns-in_err-h c = let p = err_from_is_err_and c.from_residual.result c.from_residual.ensures.1 in rw (p.1, p.2) (write_handle_run (sight c.args.volume.now) c.args.file.now c.args.cred.now c.args.offset c.args.count c.args.asked c.args.bytes.now c.args.now c.args.choice ∙ search rules)

pub returns-in_err-object : goal.returns-in_err-object
returns-in_err-object c = let p = err_from_is_err_and c.from_residual-in_err-object.result c.from_residual-in_err-object.ensures.1 in rw (p.1, p.2) (write_handle_run (sight c.args.volume.now) c.args.file.now c.args.cred.now c.args.offset c.args.count c.args.asked c.args.bytes.now c.args.now c.args.choice ∙ search rules)

pub returns-in_err-refuse : goal.returns-in_err-refuse
returns-in_err-refuse c = let p = err_from_is_err_and c.from_residual-in_err-refuse.result c.from_residual-in_err-refuse.ensures.1 in rw (p.1, p.2) (write_handle_run (sight c.args.volume.now) c.args.file.now c.args.cred.now c.args.offset c.args.count c.args.asked c.args.bytes.now c.args.now c.args.choice ∙ search rules)

pub returns : goal.returns
returns c = gives_same c.write_in.result _ _ c.write_in.ensures (write_handle_run (sight c.args.volume.now) c.args.file.now c.args.cred.now c.args.offset c.args.count c.args.asked c.args.bytes.now c.args.now c.args.choice ∙ search rules)
