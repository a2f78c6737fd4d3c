-- What a checker's answer says of a claim: yes where it holds, and no where it doesn't.
use Rattle.std.specs.Prelude.{Bool, true, false, Result, Ok, Err}

abbrev pub Says : {E : Type 0} → Result Bool E → Type 0 → Type 0
Says (Ok true) P = P
Says (Ok false) P = P → ⊥
Says (Err e) P = Unit {0}
