use Rattle.sl_examples.proofs.Effects.{effects_are_told_apart}
use Rattle.sl_examples.proofs.effects_are_told_apart.Goals as goal

pub returns : goal.returns
returns c = effects_are_told_apart
