use Rattle.sl_arrivals.proofs.Arrivals.{arrivals_are_noted}
use Rattle.sl_arrivals.proofs.arrivals_are_noted.Goals as goal

pub returns : goal.returns
returns c = arrivals_are_noted
