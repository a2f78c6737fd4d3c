-- Files that are named, and those that aren't.
use Rattle.std.specs.Prelude.{ℕ, ◌==◌, Option, Some, None, Bool, false, not}

abbrev pub is_this : ℕ → Option ℕ → Bool
is_this f None = false
is_this f (Some g) = g == f

-- there is one, and it is another
abbrev pub is_another : ℕ → Option ℕ → Bool
is_another f None = false
is_another f (Some g) = not (g == f)
