use Rattle.std.proofs.Common.{arith}
use Rattle.std.specs.Prelude.{decimal}
use Rattle.sl_defs.specs.Schedules.{two_text, three_text}
use Rattle.sl_text.proofs.WordLaws.{decimal_no_space}
use Rattle.sl_sched.proofs.parts.three_of.Goals as goal

pub returns : goal.returns
unfolding two_text three_text
returns d = λ a b c is e.
    let front = d.cut.ensures (decimal a) (two_text b c) (decimal_no_space a (omega (arith, is.first))) e in
    let back = d.cut-2.ensures (decimal b) (decimal c) (decimal_no_space b is.second) front.1 in
    (d.number_u8.ensures a is.first front.0, d.number_u64.ensures b is.second back.0, d.number_u64-2.ensures c is.third back.1)
