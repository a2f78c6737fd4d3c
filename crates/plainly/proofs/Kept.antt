-- Whether a WRITE is kept, as a number.
use Rattle.std.proofs.Common.{◌≡◌, ℕ, ◌^◌, ◌<◌, Bool, true, false, eqb, refl, arith}
use Rattle.std.specs.Prelude.{if◌then◌else◌}

abbrev pub number_of_kept : Bool → ℕ
number_of_kept kept = if kept then 1 else 0

pub kept_fits : (kept : Bool) → number_of_kept kept < 2 ^ 64
kept_fits true = omega arith
kept_fits false = omega arith

pub kept_again : (kept : Bool) → eqb (number_of_kept kept) 1 ≡ kept
kept_again true = refl
kept_again false = refl
