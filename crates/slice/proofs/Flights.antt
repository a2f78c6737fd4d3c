-- Frames in flight: in the world, and in its history.
use Rattle.std.proofs.Common.{◌≡◌, ℕ, Option, Some, None, refl, ap, ◌∙◌}
use Rattle.std.specs.Prelude.{is_some, option_map}
use Rattle.std.specs.FinMap as map
use Rattle.sl_history.specs.Turns.{History}
use Rattle.sl_history.specs.Frames.{in_flight}
use Rattle.sl_world.specs.declared.world.World.{World}
use Rattle.sl_world.specs.Worlds.{Follows, flying_of}
use Rattle.sl_world.proofs.Mapping.{get_so}
use Rattle.sl_transport.proofs.Alike.{flies_alike}
use Rattle.sl_getattr.proofs.Histories.{is_run}

same_some : {A B : Type 0} (g : A → B) (o : Option A) → is_some (option_map g o) ≡ is_some o
same_some g None = refl
same_some g (Some x) = refl

-- the frames in flight are those of the history
pub flies : (v : World) (h : History) → Follows v h → (k : ℕ) → in_flight h k ≡ map.contains_key v.flight k
flies v h f k =
    (flies_alike v.proxy.setup h f.world (is_run v.proxy.setup h f.world f.run)).flies k ∙ ap (λ m. map.contains_key m k) f.stands.flight
    ∙ ap is_some (get_so flying_of v.flight k) ∙ same_some flying_of (map.get v.flight k)
