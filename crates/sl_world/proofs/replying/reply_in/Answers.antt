use Rattle.std.proofs.Common.{Some, None}
use Rattle.sl_world.proofs.Editing.{no_reply, some_reply}
use Rattle.sl_world.proofs.replying.reply_in.Goals as goal

pub returns-in_default-clause-exact : goal.returns-in_default-clause-exact
returns-in_default-clause-exact c = no_reply c.args.procedure c.args.packet.now c.in_default.ensures

pub returns-in-Ok-read_reply-clause-exact : goal.returns-in-Ok-read_reply-clause-exact
returns-in-Ok-read_reply-clause-exact c =
    some_reply c.args.procedure c.args.packet.now c.in-Ok.results.now (Some c.in-Ok-read_reply.reply) c.in-Ok.ensures c.in-Ok-read_reply.ensures.exact

pub returns-in-Err-Garbage-clause-exact : goal.returns-in-Err-Garbage-clause-exact
returns-in-Err-Garbage-clause-exact c =
    let fault = rw c.in-Err-Garbage.field-0-is at c.in-Err-Garbage.ensures in
    some_reply c.args.procedure c.args.packet.now c.in-Ok.results.now None c.in-Ok.ensures fault.exact
