-- What a source gave and a sink took, and what their faults say.
use Rattle.std.specs.Prelude.{◌≡◌, ℕ, ◌+◌, ◌-◌, ◌^◌, ◌≤◌, min, List, ◌++◌, Option, Result, OnErr, MatchResult}
use Rattle.std.specs.Io.KnownBytes.{Appends, Keeps}
use Rattle.slice.specs.declared.sink.SinkError.{SinkError}
use Rattle.slice.specs.declared.sink.SinkError.TheVariants.{Failed, NoMemory}

-- a count of faults has risen, or stands at its last value
abbrev pub Rose : ℕ → ℕ → Type 0
Rose before now = min (before + 1) (2 ^ 64 - 1) ≤ now

-- A count of faults never falls, and an error comes only where it rose.
pub record Counts {T E : Type 0} (before now : ℕ) (outcome : Result T E) : Type 0 where
  pub later : before ≤ now
  pub failed : OnErr outcome (Rose before now)

-- what a sink held, and some front of the bytes behind it
pub record TookFront (old new : Option (List ℕ)) (bytes : List ℕ) : Type 0 where
  pub front : List ℕ
  pub back : List ℕ
  pub parts : bytes ≡ front ++ back
  pub taken : Appends old new front

-- after a fault some front of the bytes was taken, after want of memory none of them
abbrev pub TookAtError : SinkError → Option (List ℕ) → Option (List ℕ) → List ℕ → Type 0
TookAtError Failed old new bytes = TookFront old new bytes
TookAtError NoMemory old new bytes = Keeps old new

-- what a write did, as far as the sink tells
abbrev pub Writes : Result Unit SinkError → Option (List ℕ) → Option (List ℕ) → List ℕ → Type 0
Writes outcome old new bytes = MatchResult outcome (λ _. Appends old new bytes) (λ e. TookAtError e old new bytes)

-- a fault comes only where the count rose; want of memory says nothing
abbrev pub Blames : SinkError → ℕ → ℕ → Type 0
Blames Failed before now = Rose before now
Blames NoMemory before now = Unit {0}

pub record SinkCounts (before now : ℕ) (outcome : Result Unit SinkError) : Type 0 where
  pub later : before ≤ now
  pub failed : MatchResult outcome (λ _. Unit {0}) (λ e. Blames e before now)
