-- Which actors are up.
use Rattle.std.specs.Prelude.{◌≡◌, ℕ, ◌<◌, [], ◌∷◌, Bool, false, slice_index_or}
use Rattle.sl_history.specs.Turns.{History}
use Rattle.sl_history.specs.Frames.{is_up}
use Rattle.sl_ledger.specs.declared.actors.Actors.{Actors}

abbrev pub up_at : Actors → ℕ → Bool
up_at actors a = slice_index_or actors.up a false

-- These are up after the history.
abbrev pub AreUp : History → Actors → Type 0
AreUp h actors = (a : ℕ) → a < 256 → up_at actors a ≡ is_up h a

-- these were up as the newest turn began
abbrev pub WereUp : History → Actors → Type 0
WereUp [] actors = Unit {0}
WereUp (t ∷ past) actors = AreUp past actors
