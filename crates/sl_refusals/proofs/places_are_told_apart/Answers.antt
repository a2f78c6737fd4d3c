use Rattle.sl_refusals.proofs.Elsewhere.{places_are_told_apart}
use Rattle.sl_refusals.proofs.places_are_told_apart.Goals as goal

pub returns : goal.returns
returns c = places_are_told_apart
