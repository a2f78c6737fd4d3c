-- Files with unstable writes.
use Rattle.std.specs.Prelude.{◌≡◌, ℕ, ◌+◌, ◌-◌, List, Bool, true, false, length}
use Rattle.std.specs.Ordering.{nat_cmp}
use Rattle.std.specs.BTreeSet as sorted
use Rattle.sl_history.specs.Turns.{History}
use Rattle.sl_history.specs.Licensed.{flushing, is_in, without}
use Rattle.sl_licence.specs.declared.dirty.Files.{Files}
use Rattle.sl_licence.specs.declared.dirty.Flushing.{Flushing}

abbrev pub number_of : Bool → ℕ
number_of true = 1
number_of false = 0

abbrev pub has_file : Files → ℕ → Bool
has_file s f = sorted.contains nat_cmp s.files f

-- how many files there are besides this one
abbrev pub others_in : Files → ℕ → ℕ
others_in s f = sorted.btree_set_len s.files - number_of (has_file s f)

-- The set has the files of a list that has each once.
pub record AreFiles (fs : List ℕ) (s : Files) : Type 0 where
  pub has : (f : ℕ) → has_file s f ≡ is_in f fs
  pub count : (f : ℕ) → length (without f fs) + number_of (is_in f fs) ≡ sorted.btree_set_len s.files

-- the files that are being flushed
pub record AreFlushing (h : History) (x : Flushing) : Type 0 where
  pub files : x.files.items ≡ flushing h
