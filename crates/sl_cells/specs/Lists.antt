-- Lists: how many there are, and these one after the other.
use Rattle.std.specs.Prelude.{◌≡◌, ℕ, zero, suc, ◌^◌, ◌<◌, List, [], ◌∷◌, ◌++◌, length, Option, All}
use Rattle.sl_defs.specs.Items.{◌>>=◌, u32_text, u32_at}
use Rattle.sl_defs.specs.Parts.{void_at, mapped, ◌⊗◌}

-- a reader of values of this type
abbrev pub Reader : Type 0 → Type 0
Reader A = List ℕ → Option (A × List ℕ)

-- so many, one after the other
unfoldable pub times_at : {A : Type 0} → Reader A → ℕ → Reader (List A)
times_at read zero = void_at []
times_at read (suc n) = mapped (λ x. x.0 ∷ x.1) (read ⊗ times_at read n)

-- a list: how many, and these
unfoldable pub counted_at : {A : Type 0} → Reader A → Reader (List A)
counted_at read bytes = do
  count ← u32_at bytes
  times_at read count.0 count.1

-- one after the other
unfoldable pub texts : {A : Type 0} → (A → List ℕ) → List A → List ℕ
texts text_of [] = []
texts text_of (x ∷ xs) = text_of x ++ texts text_of xs

-- a list: how many, and these
unfoldable pub counted_text : {A : Type 0} → (A → List ℕ) → List A → List ℕ
counted_text text_of xs = u32_text (length xs) ++ texts text_of xs

-- fewer than 2^32, each of which fits
abbrev pub FitsList : {A : Type 0} → (A → Type 0) → List A → Type 0
FitsList Fits xs = (length xs < 2 ^ 32) × All Fits xs
