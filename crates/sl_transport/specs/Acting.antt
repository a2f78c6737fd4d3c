-- Actors that are up, and what they send.
use Rattle.std.specs.Prelude.{◌≡◌, ℕ, List, [], ◌∷◌, true}
use Rattle.std.specs.FinMap as map
use Rattle.sl_history.specs.Turns.{Remark, Sent, Turn, History}
use Rattle.sl_history.specs.Frames as history
use Rattle.sl_history.specs.Wired.{may_send}
use Rattle.sl_machine.specs.World.{World}
use Rattle.sl_machine.specs.Runs.{is_up}

-- The actors that are up are those of the history: of no other number either.
abbrev pub AreUpAlike : History → World → Type 0
AreUpAlike h w = (a : ℕ) → history.is_up h a ≡ is_up (map.get w.actors a)

-- a frame that is noted may be sent
abbrev pub IsSentRightly : History → Turn → Remark → Type 0
IsSentRightly past t (Sent k f) = may_send past t.happening f ≡ true
IsSentRightly past t other = Unit {0}

abbrev pub AllSentRightly : History → Turn → List Remark → Type 0
AllSentRightly past t [] = Unit {0}
AllSentRightly past t (r ∷ rs) = IsSentRightly past t r × AllSentRightly past t rs

-- Each frame is sent by an actor whose event it is.
abbrev pub SendRightly : History → Type 0
SendRightly [] = Unit {0}
SendRightly (t ∷ past) = SendRightly past × AllSentRightly past t t.remarks
