use Rattle.std.proofs.Common.{refl, false, arith}
use Rattle.sl_edit.proofs.Wholes.{is_reply, no_reply}
use Rattle.sl_edit.proofs.packet.is_reply.Goals as goal

pub returns-in-Ok : goal.returns-in-Ok
returns-in-Ok c = is_reply c.args.procedure c.args.packet.now c.in-Ok.results.now c.is_reply.result (λ i. omega (arith, c.type_inv.packet i)) c.in-Ok.ensures c.is_reply.ensures.found c.is_reply.ensures.garbage

pub returns-in-Err : goal.returns-in-Err
returns-in-Err c = no_reply c.args.procedure c.args.packet.now false c.in-Err.ensures refl
