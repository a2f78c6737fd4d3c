-- How the checks end that look nothing up.
use Rattle.std.specs.Prelude.{ℕ, List, Option, Some, None, Bool, ◌||◌, nat_lt, length, Result, Ok, Err, if◌then◌else◌}
use Rattle.sl_types.specs.declared.kind.Status.{Status}
use Rattle.sl_types.specs.declared.kind.Status.TheVariants.{NameTooLong, Acces, BadHandle}
use Rattle.sl_types.specs.declared.handle.Handle.{Handle}
use Rattle.sl_types.specs.Handles.{handle_of}
use Rattle.sl_model.specs.Plan.{and_then}
use Rattle.sl_model.specs.Checks.{is_bad}

unfoldable pub refused : Bool → Status → Result (Unit {0}) Status
refused b s = if b then Err s else Ok tt

unfoldable pub checked_name : List ℕ → Result (Unit {0}) Status
checked_name name = and_then (refused (nat_lt 255 (length name)) NameTooLong) (λ u. refused (is_bad name) Acces)

unfoldable pub checked_names : List ℕ → List ℕ → Result (Unit {0}) Status
checked_names a b = and_then (refused (nat_lt 255 (length a) || nat_lt 255 (length b)) NameTooLong) (λ u. refused (is_bad a || is_bad b) Acces)

abbrev pub handle_from : Option Handle → Result Handle Status
handle_from None = Err BadHandle
handle_from (Some h) = Ok h

unfoldable pub read_handle : List ℕ → Result Handle Status
read_handle bytes = handle_from (handle_of bytes)

-- what is found, as an answer
abbrev pub ended : {A B : Type 0} → (A → B) → Result A Status → Result B Status
ended f (Ok a) = Ok (f a)
ended f (Err s) = Err s
