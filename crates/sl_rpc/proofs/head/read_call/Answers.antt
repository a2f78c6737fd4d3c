use Rattle.std.proofs.Common.{ap, length, arith}
use Rattle.sl_defs.proofs.HeaderLaws.{has_header, no_header}
use Rattle.sl_rpc.specs.Heads.{view}
use Rattle.sl_rpc.proofs.Answers.{is_head}
use Rattle.sl_rpc.proofs.head.read_call.Goals as goal

pub returns-in-Ok : goal.returns-in-Ok
returns-in-Ok c =
    let begins = has_header c.args.bytes.now (view c.in-Ok.h, c.take_header.new.cursor.rest) c.place.result (λ i. omega (arith, c.type_inv.bytes i)) (rw c.new-cursor.ensures.rest at c.in-Ok.ensures.exact) (omega (arith, c.place.ensures, c.in-Ok.ensures.moved, c.new-cursor.ensures.place, ap length c.new-cursor.ensures.rest)) in
    is_head c.args.bytes.now (view c.in-Ok.h) c.place.result c.judge.result begins c.judge.ensures

pub returns-in-Err : goal.returns-in-Err
returns-in-Err c = no_header c.args.bytes.now (rw c.new-cursor.ensures.rest at c.in-Err.ensures.exact)
