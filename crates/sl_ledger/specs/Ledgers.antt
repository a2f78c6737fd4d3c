-- What a ledger knows of a history.
use Rattle.std.specs.Prelude.{◌≡◌}
use Rattle.sl_history.specs.Turns.{History}
use Rattle.sl_history.specs.Frames.{last_hello, last_verf}
use Rattle.sl_ledger.specs.declared.ledger.Ledger.{Ledger}
use Rattle.sl_ledger.specs.Sending.{AreSentIn}
use Rattle.sl_ledger.specs.Ups.{AreUp, WereUp}
use Rattle.sl_ledger.specs.Waiting.{AreArrivalsOf}

-- The ledger is that of the history.
pub record IsLedgerOf (h : History) (l : Ledger) : Type 0 where
  pub arrived : AreArrivalsOf h l.arrivals
  pub sent : AreSentIn h l.sent
  pub up : AreUp h l.up
  pub was : WereUp h l.was_up
  pub hello : l.last_hello ≡ last_hello h
  pub verf : l.last_verf ≡ last_verf h
