use Rattle.std.proofs.Common.{arith}
use Rattle.sl_past.specs.Words.{remark_of}
use Rattle.sl_world.proofs.Following.{opened_so}
use Rattle.sl_world.proofs.world.World.open.Goals as goal

pub returns-clause-follows : goal.returns-clause-follows
returns-clause-follows c = opened_so c.args.setup.now c.silent-world.result c.send.new.self c.hello.result (remark_of c.in_ok-note.note) c.in_ok-notes.notes
    (omega (arith, c.if-setup-ne1.false)) (omega (arith, c.if-setup-gt4.false)) (omega (arith, c.if-setup-gt8.false))
    c.hello.ensures c.silent-world.ensures c.in_ok-note.ensures.sent c.in_ok-note.ensures.noted c.in_ok-notes.ensures
