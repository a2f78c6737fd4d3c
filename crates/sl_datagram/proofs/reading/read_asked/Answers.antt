use Rattle.std.proofs.Common.{refl, ap, sym, ◌∙◌, arith}
use Rattle.sl_history.specs.Arrivals.{IsAnswered}
use Rattle.sl_datagram.proofs.Arguments.{with_call, without_call}
use Rattle.sl_datagram.proofs.reading.read_asked.Goals as goal

pub returns-in-Ok : goal.returns-in-Ok
returns-in-Ok c = sym (with_call c.args.xid c.args.procedure c.args.cred c.args.args.now c.in-Ok.call c.in-Ok.ensures.found)

pub returns-in_ok-garbage_args-in-Err-Garbage : goal.returns-in_ok-garbage_args-in-Err-Garbage
returns-in_ok-garbage_args-in-Err-Garbage c =
    let fault = rw c.in-Err-Garbage.field-0-is at c.in-Err-Garbage.ensures in
    ap IsAnswered c.in_ok-garbage_args-in-Err-Garbage.ensures
    ∙ sym (without_call c.args.xid c.args.procedure c.args.cred c.args.args.now (λ i. omega (arith, c.type_inv.args i)) (fault.garbage refl))
