use Rattle.sl_refusals.proofs.Requests.{flights_are_told_apart}
use Rattle.sl_refusals.proofs.flights_are_told_apart.Goals as goal

pub returns : goal.returns
returns c = flights_are_told_apart
