use Rattle.std.proofs.Common.{refl, false, arith}
use Rattle.sl_edit.proofs.Wholes.{is_call, no_call}
use Rattle.sl_edit.proofs.packet.is_call.Goals as goal

pub returns-in-Ok : goal.returns-in-Ok
returns-in-Ok c = is_call c.args.packet.now c.in-Ok.procedure c.in-Ok.args.now c.has_args.result (λ i. omega (arith, c.type_inv.packet i)) c.in-Ok.ensures c.has_args.ensures.found c.has_args.ensures.garbage

pub returns-in-Err : goal.returns-in-Err
returns-in-Err c = no_call c.args.packet.now false c.in-Err.ensures refl
