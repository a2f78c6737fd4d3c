use Rattle.std.proofs.Common.{arith, refl}
use Rattle.std.specs.Prelude.{decimal}
use Rattle.sl_defs.specs.Schedules.{moment_text}
use Rattle.sl_text.proofs.WordLaws.{decimal_no_space}
use Rattle.sl_sched.proofs.parts.moment_of.Goals as goal

pub returns : goal.returns
unfolding moment_text
returns c = λ t is e.
    let parts = c.cut.ensures (decimal t.sec) (decimal t.nsec) (decimal_no_space t.sec (omega (arith, is.sec))) e in
    rw (c.number_u32.ensures t.sec is.sec parts.0, c.number_u32-2.ensures t.nsec is.nsec parts.1) refl
