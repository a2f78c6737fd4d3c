use Rattle.std.proofs.Common.{arith, subst, sym, ◌∙◌}
use Rattle.std.proofs.lemmas.Result.{IfOk-weaker}
use Rattle.sl_rpc.specs.Heads.{IsHeadOf}
use Rattle.sl_datagram.proofs.Headers.{is_answered, is_asked, is_junk, no_answer}
use Rattle.sl_datagram.proofs.reading.read_datagram.Goals as goal

pub returns-in-Some : goal.returns-in-Some
returns-in-Some c =
    let answers = rw c.in-Some.is at c.in_ok-reply.ensures in
    is_answered c.args.bytes.now c.in-Some.reply c.read_call-head.result c.read_call-head.ensures answers.header answers.no_call

pub returns-in-Call : goal.returns-in-Call
returns-in-Call c =
    let none = no_answer c.in_ok-reply.field-0 c.in_default.not-Some in
    let answers = rw (none, c.in-Call.is) at c.in_ok-reply.ensures in
    let head = subst (IsHeadOf c.args.bytes.now) c.in-Call.is c.read_call-head.ensures in
    IfOk-weaker c.read_asked.result _ _
    (λ d says. is_asked c.args.bytes.now c.in-Call.xid c.in-Call.procedure c.in-Call.cred c.in-Call.args head answers.header ∙ sym says)
    c.read_asked.ensures

pub returns-in_default-head : goal.returns-in_default-head
returns-in_default-head c =
    let none = no_answer c.in_ok-reply.field-0 c.in_default.not-Some in
    let answers = rw none at c.in_ok-reply.ensures in
    is_junk c.args.bytes.now c.read_call-head.result (λ i. omega (arith, c.type_inv.bytes i)) c.read_call-head.ensures answers.header c.in_default-head.not-Call
