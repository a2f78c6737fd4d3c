use Rattle.std.proofs.Common.{refl}
use Rattle.std.proofs.lemmas.Result.{IfOk-weaker}
use Rattle.reread.proofs.Answered.{call_is, no_call}
use Rattle.reread.proofs.packets.reread_call.Goals as goal

pub returns-in-Ok : goal.returns-in-Ok
returns-in-Ok c = IfOk-weaker c.call_digits.result _ _ (λ answer e. call_is c.args.procedure c.args.bytes.now answer.items c.in-Ok.call c.in-Ok.ensures.found c.in-Ok.ensures.only e) c.call_digits.ensures

pub returns-in-Err-Garbage : goal.returns-in-Err-Garbage
returns-in-Err-Garbage c =
    let fault = rw c.in-Err-Garbage.field-0-is at c.in-Err-Garbage.ensures in
    IfOk-weaker c.word.result _ _ (λ answer e. no_call c.args.procedure c.args.bytes.now answer.items (fault.garbage refl) e) c.word.ensures
