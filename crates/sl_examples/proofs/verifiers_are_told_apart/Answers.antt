use Rattle.sl_examples.proofs.Verifiers.{verifiers_are_told_apart}
use Rattle.sl_examples.proofs.verifiers_are_told_apart.Goals as goal

pub returns : goal.returns
returns c = verifiers_are_told_apart
