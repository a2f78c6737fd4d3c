use Rattle.std.proofs.Common.{◌∙◌, ◌++◌, ◌∷◌, append_assoc}
use Rattle.std.specs.Prelude.{decimal}
use Rattle.sl_defs.specs.Schedules.{hex_text, two_text}
use Rattle.sl_defs.specs.Transcripts.{reply_text}
use Rattle.sl_text.proofs.WordLaws.{decimal_no_space}
use Rattle.sl_trace.proofs.parts.reply_of.Goals as goal

pub returns-in-Ok : goal.returns-in-Ok
unfolding reply_text two_text
returns-in-Ok c = λ arrival event bytes is e.
    let a = c.cut.ensures (decimal arrival) (decimal event ++ 32 ∷ hex_text bytes) (decimal_no_space arrival is.arrival) (e ∙ append_assoc (decimal arrival) (32 ∷ decimal event) (32 ∷ hex_text bytes)) in
    let b = c.cut-2.ensures (decimal event) (hex_text bytes) (decimal_no_space event is.event) a.1 in
    (c.number_u64-arrival.ensures arrival is.arrival a.0, c.number_u64-event.ensures event is.event b.0, c.in-Ok.ensures bytes is.reply b.1)
