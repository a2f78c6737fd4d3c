-- The oldest frame in flight is that of the history.
use Rattle.std.proofs.Common.{◌≡◌, ℕ, false, Some, None, sym, ap, ◌∙◌}
use Rattle.std.specs.Prelude.{is_some}
use Rattle.std.specs.FinMap as map
use Rattle.sl_history.specs.Turns.{History}
use Rattle.sl_history.specs.Frames.{in_flight}
use Rattle.sl_world.specs.declared.world.World.{World}
use Rattle.sl_world.specs.Worlds.{Follows}
use Rattle.sl_world.specs.Flights.{IsOldest}
use Rattle.slice.specs.Schedule.{IsOldestIn, IsStill}
use Rattle.slice.proofs.Flights.{flies}

pub oldest_in : (v : World) (h : History) (k : ℕ) → Follows v h → IsOldest v.flight (Some k) → IsOldestIn h k
oldest_in v h k f oldest = record { flies = flies v h f k ∙ oldest.0; least = λ j has. oldest.1 j (sym (flies v h f j) ∙ has) }

pub none_in : (v : World) (h : History) → Follows v h → IsOldest v.flight None → IsStill h
none_in v h f none = λ k. flies v h f k ∙ none k

pub not_in : (v : World) (h : History) (k : ℕ) → Follows v h → map.get v.flight k ≡ None → in_flight h k ≡ false
not_in v h k f none = flies v h f k ∙ ap is_some none
