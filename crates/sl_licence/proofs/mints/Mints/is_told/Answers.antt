use Rattle.std.proofs.Common.{◌≤◌, length, sym, arith}
use Rattle.std.proofs.lemmas.Bool.{true≢false}
use Rattle.sl_licence.proofs.Numbers.{untold}
use Rattle.sl_licence.proofs.mints.Mints.is_told.Goals as goal

pub returns : goal.returns
returns c = λ h is are.
    let all : length c.numbers_of-number-items.result.now ≤ c.loop-number.number-index = omega arith in (
      λ e. absurd (true≢false (sym e)),
      λ told. absurd (untold h c.args.self.now c.args.arrival c.numbers_of-number-items.result.now c.loop-number.number-index c.numbers_of-number-items.ensures all (c.loop-number.invariant h is) are told),
    )
