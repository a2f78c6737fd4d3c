use Rattle.sl_refusals.proofs.UnstableEffects.{unstable_effects_are_told_apart}
use Rattle.sl_refusals.proofs.unstable_effects_are_told_apart.Goals as goal

pub returns : goal.returns
returns c = unstable_effects_are_told_apart
