-- The ends of turns at which many files had unstable writes.
use Rattle.std.specs.Prelude.{◌≡◌, ℕ, ◌&&◌, List, Option, Some, None, Bool, false, nat_le, length}
use Rattle.std.specs.List.{list_any}
use Rattle.sl_model.specs.Volume.{Volume, Unstable}
use Rattle.sl_history.specs.Turns.{History}
use Rattle.sl_history.specs.Licensed.{files_of, had_many, most_dirty, together, without}
use Rattle.sl_licence.specs.declared.crowds.Crowd.{Crowd}
use Rattle.sl_licence.specs.declared.crowds.Crowds.{Crowds}
use Rattle.sl_licence.specs.Dirty.{others_in}

-- it was at event n or later, and that many were other files than f
abbrev pub had : ℕ → ℕ → Crowd → Bool
had n f c = nat_le n c.event && nat_le most_dirty (others_in c.files f)

abbrev pub had_if : ℕ → ℕ → Option Crowd → Bool
had_if n f None = false
had_if n f (Some c) = had n f c

-- so many other files than f are being flushed, or have unstable writes
abbrev pub are_many : List ℕ → List Unstable → ℕ → Bool
are_many fs ws f = nat_le most_dirty (length (without f (together fs (files_of ws))))

-- The crowds are those at the ends of the history's turns.
pub record AreCrowdsOf (start : Volume) (h : History) (x : Crowds) : Type 0 where
  pub had : (n f : ℕ) → list_any (had n f) x.crowds.items ≡ had_many start h n f
