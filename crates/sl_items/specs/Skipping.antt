-- Passing over what stands at the front of some bytes.
use Rattle.std.specs.Prelude.{ℕ, List, Option, Some, None}

-- the bytes that are left behind what was read
abbrev pub behind : {A : Type 0} → Option (A × List ℕ) → Option (List ℕ)
behind None = None
behind (Some x) = Some x.1
