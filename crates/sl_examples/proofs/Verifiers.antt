-- Licensed histories and others, by computing: write verifiers.
use Rattle.std.proofs.Common.{◌≡◌, ℕ, refl, sym, [], ◌∷◌, true≢false, lit<, arith}
use Rattle.sl_model.specs.Perform.{fresh}
use Rattle.sl_history.specs.Turns.{Turn, History, Remark}
use Rattle.sl_history.specs.Volumes.{volume_after}
use Rattle.sl_history.specs.Frames.{is_up}
use Rattle.sl_history.specs.Licensed.{Licensed, IsLicensedTurn, IsRenewal, may_be_lost}
use Rattle.sl_examples.specs.Histories.{start, opened, greeted, welcomed, verified_twice, verified_the_same, flushed_for_nothing}
use Rattle.sl_examples.specs.Claims.{VerifiersAreToldApart}
use Rattle.sl_examples.proofs.Drops.{opening_is_licensed}

greeting_is_licensed : Licensed start greeted
greeting_is_licensed = (opening_is_licensed, record { may = (tt, tt); dropped = refl })

once : Licensed start welcomed
unfolding volume_after may_be_lost fresh
once = (greeting_is_licensed, record { may = (record { greater = lit< tt; lost = refl }, tt); dropped = refl })

twice : Licensed start verified_twice → ⊥
unfolding may_be_lost is_up
twice licensed = true≢false (sym licensed.1.may.0.lost)

same : Licensed start verified_the_same → ⊥
unfolding volume_after
same licensed = absurd (omega (arith, licensed.1.may.0.greater))

nothing : Licensed start flushed_for_nothing → ⊥
unfolding volume_after fresh
nothing licensed = true≢false (sym licensed.1.may.0.unstable)

pub verifiers_are_told_apart : VerifiersAreToldApart
verifiers_are_told_apart = (once, twice, same, nothing)
