use Rattle.std.proofs.lemmas.Result.{IfOk-weaker}
use Rattle.reread.proofs.Answered.{reply_is}
use Rattle.reread.proofs.packets.reread_reply.Goals as goal

pub returns-in-Ok : goal.returns-in-Ok
returns-in-Ok c = IfOk-weaker c.reply_digits.result _ _ (λ answer e. reply_is c.args.procedure c.args.bytes.now answer.items c.in-Ok.reply c.in-Ok.ensures.exact c.in-Ok.ensures.found e) c.reply_digits.ensures
