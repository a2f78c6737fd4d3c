-- What holds of the texts of cells, keys, changes and writes as a whole.
use Rattle.std.specs.Prelude.{◌≡◌, ℕ, List, ◌++◌, Some}
use Rattle.sl_defs.specs.Items.{AreBytes}
use Rattle.sl_cells.specs.Lists.{Reader}

-- Each value that fits is read from its text, whatever follows; and what is read stood there as the text of a value that
-- fits.
pub record HasOneText {A : Type 0} (read : Reader A) (text_of : A → List ℕ) (Fits : A → Type 0) : Type 0 where
  pub is_read : (x : A) (rest : List ℕ) → Fits x → read (text_of x ++ rest) ≡ Some (x, rest)
  pub is_only : (bytes rest : List ℕ) (x : A) → AreBytes bytes → read bytes ≡ Some (x, rest) → (bytes ≡ text_of x ++ rest) × Fits x
