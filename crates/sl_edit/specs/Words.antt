-- Bytes that are filled from a place on.
use Rattle.std.specs.Prelude.{◌≡◌, ℕ, ◌+◌, List, ◌++◌, length, take}

-- what stood before the place, and this item behind it, and the whole as long as before
pub record Filled (old new : List ℕ) (at : ℕ) (item : List ℕ) : Type 0 where
  pub front : take (at + length item) new ≡ take at old ++ item
  pub long : length new ≡ length old
