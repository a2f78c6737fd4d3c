use Rattle.sl_transport.proofs.Counting.{given_in_flight}
use Rattle.sl_transport.proofs.laws.frames_are_given_in_flight.Goals as goal

pub returns : goal.returns
returns c = given_in_flight
