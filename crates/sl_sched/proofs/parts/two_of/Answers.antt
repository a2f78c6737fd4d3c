use Rattle.std.proofs.Common.{arith}
use Rattle.std.specs.Prelude.{decimal}
use Rattle.sl_defs.specs.Schedules.{two_text}
use Rattle.sl_text.proofs.WordLaws.{decimal_no_space}
use Rattle.sl_sched.proofs.parts.two_of.Goals as goal

pub returns : goal.returns
unfolding two_text
returns c = λ a b is e.
    let parts = c.cut.ensures (decimal a) (decimal b) (decimal_no_space a (omega (arith, is.first))) e in
    (c.number_u8.ensures a is.first parts.0, c.number_u64.ensures b is.second parts.1)
