-- The actors of a set, and those that hold the units of a file.
use Rattle.std.specs.Prelude.{◌≡◌, ℕ, ◌+◌, ◌%◌, ◌<◌, ◌≤◌, IsBitSet}
use Rattle.sl_types.specs.declared.writes.ActorSet.{ActorSet}
use Rattle.sl_route.specs.declared.class.Class.TheVariants as class
use Rattle.sl_route.specs.Places.{Places, threshold, server_of}

-- the actor is in the set
abbrev pub Has : ActorSet → ℕ → Type 0
Has set actor = IsBitSet set.0 actor

-- the site of a file's unit on storage nodes
abbrev pub site_of_unit : ℕ → ℕ → ℕ
site_of_unit fileid unit = (fileid + unit) % 64

-- the server holds one of a file's units from one up to another
pub record HoldsUnit (p : Places) (fileid first end actor : ℕ) : Type 0 where
  pub unit : ℕ
  pub above : first ≤ unit
  pub below : unit < end
  pub server : actor ≡ server_of p class.Node (site_of_unit fileid unit)

-- the server holds bytes of a file below the threshold, of which there is one from an offset up to another
pub record HoldsSmall (p : Places) (fileid from to actor : ℕ) : Type 0 where
  pub some : from < to
  pub below : from < threshold
  pub server : actor ≡ server_of p class.Small (fileid % 16)
