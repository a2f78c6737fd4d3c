use Rattle.std.proofs.Common.{arith}
use Rattle.std.specs.Prelude.{decimal}
use Rattle.sl_defs.specs.Schedules.{hex_text}
use Rattle.sl_text.proofs.WordLaws.{decimal_no_space}
use Rattle.reread.proofs.packets.packet_of.Goals as goal

pub returns-in-Ok : goal.returns-in-Ok
returns-in-Ok c = λ procedure bytes fits are e.
    let parts = c.cut.ensures (decimal procedure) (hex_text bytes) (decimal_no_space procedure (omega (arith, fits))) e in
    (c.number_u32-procedure.ensures procedure fits parts.0, c.in-Ok.ensures bytes are parts.1)
