use Rattle.std.proofs.Common.{arith}
use Rattle.sl_types.proofs.HandleLaws.{internal_is_found, internal_is_none}
use Rattle.sl_types.proofs.handle.InternalHandle.read.Goals as goal

pub returns-clause-found : goal.returns-clause-found
returns-clause-found c = internal_is_found c.args.bytes.now c.read_internal.result (λ i. omega (arith, c.type_inv.bytes i)) c.read_internal.ensures

pub returns-clause-none : goal.returns-clause-none
returns-clause-none c = internal_is_none c.args.bytes.now c.read_internal.result c.read_internal.ensures
