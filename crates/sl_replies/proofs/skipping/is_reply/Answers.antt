use Rattle.std.proofs.Common.{◌∙◌, sym, arith}
use Rattle.sl_replies.proofs.Readable.{some_reply, never_reply}
use Rattle.sl_replies.proofs.skipping.is_reply.Goals as goal

pub returns-clause-found : goal.returns-clause-found
returns-clause-found c = λ is. some_reply c.args.procedure c.args.bytes.now (λ i. omega (arith, c.type_inv.bytes i)) (sym c.skips_all.ensures ∙ is)

pub returns-clause-garbage : goal.returns-clause-garbage
returns-clause-garbage c = λ is. never_reply c.args.procedure c.args.bytes.now (sym c.skips_all.ensures ∙ is)
