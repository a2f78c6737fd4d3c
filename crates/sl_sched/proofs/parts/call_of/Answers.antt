use Rattle.std.proofs.Common.{arith}
use Rattle.std.specs.Prelude.{decimal}
use Rattle.sl_defs.specs.Schedules.{call_text, hex_text}
use Rattle.sl_text.proofs.WordLaws.{decimal_no_space}
use Rattle.sl_sched.proofs.parts.call_of.Goals as goal

pub returns-in-Ok : goal.returns-in-Ok
unfolding call_text
returns-in-Ok c = λ client datagram is e.
    let parts = c.cut.ensures (decimal client) (hex_text datagram) (decimal_no_space client (omega (arith, is.client))) e in
    (c.number_u32-client.ensures client is.client parts.0, c.in-Ok.ensures datagram is.bytes parts.1)
