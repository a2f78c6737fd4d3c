-- The moments of turns.
use Rattle.std.specs.Prelude.{◌≡◌, [], ◌∷◌}
use Rattle.sl_defs.specs.declared.setup.Time.{Time}
use Rattle.sl_history.specs.Turns.{History}
use Rattle.sl_history.specs.Legal.{NotAfter}
use Rattle.sl_machine.specs.World.{World}

-- no turn was after this moment
abbrev pub NoneAfter : History → Time → Type 0
NoneAfter [] at = Unit {0}
NoneAfter (t ∷ past) at = NotAfter t.moment at × NoneAfter past at

-- no turn was after a later one
abbrev pub Rises : History → Type 0
Rises [] = Unit {0}
Rises (t ∷ past) = Rises past × NoneAfter past t.moment

-- the moment of the newest turn, and before the first one the epoch
abbrev pub now : History → Time
now [] = record { sec = 0; nsec = 0 }
now (t ∷ past) = t.moment

-- The world is at the moment of the newest turn, and moments rise from turn to turn.
pub record MomentsRise (h : History) (w : World) : Type 0 where
  pub moment : w.moment ≡ now h
  pub rises : Rises h
