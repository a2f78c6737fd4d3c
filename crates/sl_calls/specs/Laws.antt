-- What holds of the grammar of arguments as a whole.
use Rattle.std.specs.Prelude.{◌≡◌, ℕ, List, [], ◌++◌, Some}
use Rattle.sl_types.specs.declared.call.Call.{Call}
use Rattle.sl_calls.specs.Args.{IsArgs, procedure_of, args_text, FitsLengths, FitsNumbers}
use Rattle.sl_calls.specs.Reading.{args_at}

-- The canonical text of a call in range spells its arguments.
abbrev pub CanonicalTextsSpell : Type 0
CanonicalTextsSpell = (call : Call) → FitsLengths call → FitsNumbers call → IsArgs call (args_text call)

-- What spells a call's arguments is read as that call, whatever follows, and what follows is left.
abbrev pub SpellingsAreRead : Type 0
SpellingsAreRead = (call : Call) (text rest : List ℕ) → IsArgs call text → args_at (procedure_of call) (text ++ rest) ≡ Some (call, rest)

-- No spelling is a proper front of another of the same procedure, and none spells two calls.
abbrev pub NoSpellingIsAFront : Type 0
NoSpellingIsAFront = (call other : Call) (front text rest : List ℕ) → procedure_of call ≡ procedure_of other → IsArgs call front → IsArgs other text → text ≡ front ++ rest → (call ≡ other) × (rest ≡ [])
