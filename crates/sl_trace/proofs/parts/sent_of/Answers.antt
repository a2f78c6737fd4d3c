use Rattle.std.specs.Prelude.{decimal}
use Rattle.sl_defs.specs.Schedules.{hex_text}
use Rattle.sl_defs.specs.Transcripts.{sent_text}
use Rattle.sl_text.proofs.WordLaws.{decimal_no_space}
use Rattle.sl_trace.proofs.parts.sent_of.Goals as goal

pub returns-in-Ok : goal.returns-in-Ok
unfolding sent_text
returns-in-Ok c = λ frame bytes small fits e.
    let parts = c.cut.ensures (decimal frame) (hex_text bytes) (decimal_no_space frame small) e in
    (c.number_u64-frame.ensures frame small parts.0, c.in-Ok.ensures bytes fits parts.1)
