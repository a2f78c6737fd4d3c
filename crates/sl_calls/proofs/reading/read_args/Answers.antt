use Rattle.std.proofs.Common.{arith}
use Rattle.sl_calls.proofs.Calls.{is_found, is_only, is_short, is_garbage}
use Rattle.sl_calls.proofs.reading.read_args.Goals as goal

pub returns-clause-found : goal.returns-clause-found
returns-clause-found c = is_found c.args.procedure c.args.bytes.now c.take_args.result _ (λ i. omega (arith, c.type_inv.bytes i)) (rw c.new-cursor.ensures.rest at c.take_args.ensures)

pub returns-clause-only : goal.returns-clause-only
returns-clause-only c = is_only c.args.procedure c.args.bytes.now c.take_args.result _ (rw c.new-cursor.ensures.rest at c.take_args.ensures)

pub returns-clause-garbage : goal.returns-clause-garbage
returns-clause-garbage c = is_garbage c.args.procedure c.args.bytes.now c.take_args.result _ (rw c.new-cursor.ensures.rest at c.take_args.ensures)

pub returns-clause-short : goal.returns-clause-short
returns-clause-short c = is_short c.args.procedure c.args.bytes.now c.take_args.result _ (λ i. omega (arith, c.type_inv.bytes i)) (rw c.new-cursor.ensures.rest at c.take_args.ensures)
