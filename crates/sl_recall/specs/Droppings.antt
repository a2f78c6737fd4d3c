-- Notes that drop a datagram, and notes that make the proxy forget.
use Rattle.std.specs.Prelude.{◌≡◌, ℕ, ◌==◌, [], ◌∷◌, List, true, false}
use Rattle.sl_history.specs.Turns.{Remark, Turn, History}
use Rattle.sl_history.specs.Arrivals.{drops}
use Rattle.sl_history.specs.Remembering.{forgets, tells_among}

-- the note drops the datagram of event n, and does nothing else to what the proxy remembers
pub record IsDropOf (n : ℕ) (r : Remark) : Type 0 where
  pub drops_it : (m : ℕ) → drops m r ≡ (n == m)
  pub forgets_none : forgets r ≡ false
  pub tells_none : (t : Turn) (past : History) (k f : ℕ) (before : List Remark) → tells_among t past k f before (r ∷ []) ≡ false

-- the note makes the proxy forget all files
pub record Forgets (r : Remark) : Type 0 where
  pub forgets_all : forgets r ≡ true
  pub drops_none : (m : ℕ) → drops m r ≡ false
