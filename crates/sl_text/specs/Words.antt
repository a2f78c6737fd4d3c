-- Words between spaces.
use Rattle.std.specs.Prelude.{◌≡◌, ℕ, ◌<◌, List, length, slice_index}

-- no space stands in it
abbrev pub HasNoSpace : List ℕ → Type 0
HasNoSpace text = (k : ℕ) → k < length text → slice_index text k ≡ 32 → ⊥
