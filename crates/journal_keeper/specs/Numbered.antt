-- Records that tell their numbers.
use Rattle.std.specs.Prelude.{◌≡◌, ℕ, ◌%◌, ◌<◌, List, [], ◌++◌, length, replicate, get_or}
use Rattle.sl_defs.specs.Items.{u64_text}

-- the record of a number: its eight bytes, and a filling, so that records are not all as long
abbrev pub record_text : ℕ → List ℕ
record_text number = u64_text number ++ replicate (number % 4093) (number % 256)

-- each record is that of its place, the first being that of 0
abbrev pub AreNumbered : List (List ℕ) → Type 0
AreNumbered records = (place : ℕ) → place < length records → get_or records place [] ≡ record_text place
