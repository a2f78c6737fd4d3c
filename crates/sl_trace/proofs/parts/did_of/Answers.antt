use Rattle.std.proofs.Common.{refl, arith, ◌∙◌, ◌++◌, ◌∷◌, append_assoc}
use Rattle.std.specs.Prelude.{decimal}
use Rattle.sl_defs.specs.Schedules.{moment_text}
use Rattle.sl_defs.specs.Transcripts.{choice_text, did_text, effect_text}
use Rattle.sl_text.proofs.WordLaws.{decimal_no_space}
use Rattle.sl_trace.proofs.parts.did_of.Goals as goal

pub returns : goal.returns
unfolding did_text effect_text moment_text
returns c = λ arrival moment choice is e.
    let a = c.cut.ensures (decimal arrival) (effect_text moment choice) (decimal_no_space arrival is.arrival) e in
    let b = c.cut-2.ensures (decimal moment.sec) (decimal moment.nsec ++ 32 ∷ choice_text choice) (decimal_no_space moment.sec (omega (arith, is.at.sec))) (a.1 ∙ append_assoc (decimal moment.sec) (32 ∷ decimal moment.nsec) (32 ∷ choice_text choice)) in
    let d = c.cut-3.ensures (decimal moment.nsec) (choice_text choice) (decimal_no_space moment.nsec (omega (arith, is.at.nsec))) b.1 in (
      c.number_u64.ensures arrival is.arrival a.0,
      rw (c.number_u32.ensures moment.sec is.at.sec b.0, c.number_u32-2.ensures moment.nsec is.at.nsec d.0) refl,
      c.choice_of.ensures choice is.fileid d.1,
    )
