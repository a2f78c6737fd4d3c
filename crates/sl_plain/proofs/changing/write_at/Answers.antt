use Rattle.std.proofs.Common.{◌∙◌, rules}
use Rattle.std.proofs.lemmas.Result.{err_from_is_err_and}
use Rattle.sl_model.specs.Volume.{sight}
use Rattle.std.proofs.Common.{arith}
use Rattle.std.specs.Prelude.{nat_le}
use Rattle.sl_types.specs.declared.kind.Status.TheVariants.{FBig}
use Rattle.sl_model.specs.Changing.{max_size}
use Rattle.sl_plain.proofs.OutcomeLaws.{not_refused}
use Rattle.sl_plain.proofs.ChangingRuns.{write_at_run}
use Rattle.sl_plain.proofs.changing.write_at.Goals as goal

pub returns-in_err-refuse : goal.returns-in_err-refuse
returns-in_err-refuse c = let p = err_from_is_err_and c.from_residual.result c.from_residual.ensures.1 in rw (p.1, p.2) (write_at_run (sight c.args.volume.now) c.args.h c.args.offset c.args.count c.args.asked c.args.bytes.now c.args.now c.args.choice ∙ search rules)

pub returns-in_err-n : goal.returns-in_err-n
returns-in_err-n c = let p = err_from_is_err_and c.from_residual-in_err-n.result c.from_residual-in_err-n.ensures.1 in rw (p.1, p.2) (write_at_run (sight c.args.volume.now) c.args.h c.args.offset c.args.count c.args.asked c.args.bytes.now c.args.now c.args.choice ∙ search rules)

pub returns-in_err-front : goal.returns-in_err-front
returns-in_err-front c = let p = err_from_is_err_and c.from_residual-in_err-front.result c.from_residual-in_err-front.ensures.1 in rw (p.1, p.2) tt

pub returns-in_err-outcome : goal.returns-in_err-outcome
returns-in_err-outcome c = let p = err_from_is_err_and c.from_residual-in_err-outcome.result c.from_residual-in_err-outcome.ensures.1 in rw (p.1, p.2) tt

pub returns : goal.returns
returns c = write_at_run (sight c.args.volume.now) c.args.h c.args.offset c.args.count c.args.asked c.args.bytes.now c.args.now c.args.choice ∙ search rules

pub writing-requires-clause-offset : goal.writing-requires-clause-offset
writing-requires-clause-offset c = let h = not_refused (nat_le max_size c.args.offset) FBig c.in_ok-refuse.field-0 (search rules) in grind (arith, h)
