use Rattle.sl_examples.proofs.Drops.{drops_are_told_apart}
use Rattle.sl_examples.proofs.drops_are_told_apart.Goals as goal

pub returns : goal.returns
returns c = drops_are_told_apart
