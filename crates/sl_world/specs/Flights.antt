-- Frames in flight.
use Rattle.std.specs.Prelude.{◌≡◌, ℕ, ◌≤◌, Option, Some, None, true, false}
use Rattle.std.specs.Ordering.{nat_cmp}
use Rattle.std.specs.FinMap.{FinMap}
use Rattle.std.specs.FinMap as map
use Rattle.sl_world.specs.declared.flight.Flying.{Flying}

-- the least number in flight, if any is
abbrev pub IsOldest : FinMap nat_cmp Flying → Option ℕ → Type 0
IsOldest flight (Some k) = (map.contains_key flight k ≡ true) × ((j : ℕ) → map.contains_key flight j ≡ true → k ≤ j)
IsOldest flight None = (j : ℕ) → map.contains_key flight j ≡ false
