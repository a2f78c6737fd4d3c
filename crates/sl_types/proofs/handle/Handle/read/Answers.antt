use Rattle.std.proofs.Common.{arith}
use Rattle.sl_types.proofs.HandleLaws.{handle_is_found, handle_is_none}
use Rattle.sl_types.proofs.handle.Handle.read.Goals as goal

pub returns-clause-found : goal.returns-clause-found
returns-clause-found c = handle_is_found c.args.bytes.now c.read_client.result (λ i. omega (arith, c.type_inv.bytes i)) c.read_client.ensures

pub returns-clause-none : goal.returns-clause-none
returns-clause-none c = handle_is_none c.args.bytes.now c.read_client.result c.read_client.ensures
