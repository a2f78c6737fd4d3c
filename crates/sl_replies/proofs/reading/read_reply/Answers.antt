use Rattle.std.proofs.Common.{arith}
use Rattle.sl_replies.proofs.Replies.{reply_is_found, no_reply}
use Rattle.sl_replies.proofs.Fits.{on_ok_fits}
use Rattle.sl_replies.proofs.reading.read_reply.Goals as goal

pub returns-clause-found : goal.returns-clause-found
returns-clause-found c = reply_is_found c.args.procedure c.args.bytes.now c.read_whole.result (λ i. omega (arith, c.type_inv.bytes i)) c.read_whole.ensures

pub returns-clause-garbage : goal.returns-clause-garbage
returns-clause-garbage c = no_reply c.args.procedure c.args.bytes.now c.read_whole.result c.read_whole.ensures

pub returns-clause-fits : goal.returns-clause-fits
returns-clause-fits c = on_ok_fits c.args.procedure c.args.bytes.now c.read_whole.result (reply_is_found c.args.procedure c.args.bytes.now c.read_whole.result (λ i. omega (arith, c.type_inv.bytes i)) c.read_whole.ensures)
