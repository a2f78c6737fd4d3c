use Rattle.std.proofs.Common.{refl, subst}
use Rattle.std.proofs.lemmas.Result.{IfOk-weaker}
use Rattle.sl_rpc.specs.Heads.{IsHeadOf}
use Rattle.plainly.proofs.Answered.{no_args, performed, sliced}
use Rattle.plainly.proofs.calls.answer_call.Goals as goal

pub returns-in-Ok : goal.returns-in-Ok
returns-in-Ok c =
    let datagram = c.args.datagram.now in
    let head = subst (IsHeadOf datagram) c.in-Call.is c.read_call.ensures in
    IfOk-weaker c.answer_performed.result _ _
    (performed datagram c.in-Call.xid c.in-Call.procedure c.in-Call.cred c.in-Call.args head _ (sliced datagram c.in-Call.args) c.args.volume.now c.answer_performed.new.volume c.args.at c.args.choice c.in-Ok.call c.in-Ok.ensures.found)
    c.answer_performed.ensures

pub returns-in-Err-Garbage : goal.returns-in-Err-Garbage
returns-in-Err-Garbage c =
    let datagram = c.args.datagram.now in
    let head = subst (IsHeadOf datagram) c.in-Call.is c.read_call.ensures in
    let fault = rw c.in-Err-Garbage.field-0-is at c.in-Err-Garbage.ensures in
    (refl, no_args datagram c.in-Call.xid c.in-Call.procedure c.in-Call.cred c.in-Call.args head _ (sliced datagram c.in-Call.args) (fault.garbage refl))
