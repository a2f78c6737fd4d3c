use Rattle.std.proofs.Common.{Some, None, subst}
use Rattle.sl_world.specs.Flights.{IsOldest}
use Rattle.sl_world.proofs.Trees.{first_key, no_key}
use Rattle.sl_world.proofs.flight.Flight.oldest.Goals as goal

pub returns-in-Some : goal.returns-in-Some
returns-in-Some c = subst (λ m. IsOldest m (Some c.in-Some.number.now)) c.self.view_is
    (first_key c.self.inside.frames.entries c.in-Some.number.now _ c.in-Some.ensures.value c.in-Some.ensures.least)

pub returns-in-None : goal.returns-in-None
returns-in-None c = subst (λ m. IsOldest m None) c.self.view_is (no_key c.self.inside.frames.entries c.in-None.ensures.variant.1)
