-- What a memory keeps of a history.
use Rattle.std.specs.Prelude.{◌≡◌, ℕ, true}
use Rattle.sl_frames.specs.declared.body.Body.{Body}
use Rattle.sl_history.specs.Turns.{History}
use Rattle.sl_history.specs.Arrivals.{asked}
use Rattle.sl_history.specs.Remembering.{IsKnown, asks_again_by}
use Rattle.sl_ledger.specs.Ledgers.{IsLedgerOf}
use Rattle.sl_recall.specs.declared.memory.Memory.{Memory}
use Rattle.sl_recall.specs.Changing.{AreChangesOf, IsForgotten}
use Rattle.sl_recall.specs.Telling.{AreTellingsOf}

-- What the memory keeps beside its ledger is of the history.
pub record Follows (h : History) (m : Memory) : Type 0 where
  pub tellings : AreTellingsOf h m.tellings
  pub forgot : IsForgotten h m.forgot
  pub changes : AreChangesOf h m.changes

-- The memory is that of the history.
pub record IsMemoryOf (h : History) (m : Memory) : Type 0 where
  pub ledger : IsLedgerOf h m.ledger
  pub follows : Follows h m

-- the proxy has the file's attributes, when it works on call n
abbrev pub Knows : History → ℕ → ℕ → Type 0
Knows h n f = (e : ℕ) × IsKnown h n e f

-- a request for call n asks a server for attributes that the proxy has
abbrev pub AsksAgain : History → ℕ → Body → Type 0
AsksAgain h n b = (f : ℕ) × Knows h n f × (asks_again_by f b (asked h n) ≡ true)
