-- Frames in flight: in the world, and in its history.
use Rattle.std.specs.Prelude.{◌≡◌, ℕ, ◌+◌, ◌≤◌, List, [], ◌∷◌, ◌++◌, Some, None}
use Rattle.std.specs.FinMap as map
use Rattle.sl_history.specs.Turns.{Remark, Sent, Turn, History, events, so_far}
use Rattle.sl_history.specs.Frames.{frame, event_of_sending, in_flight, named_number}
use Rattle.sl_history.specs.Wired.{frames, IsFlying}
use Rattle.sl_machine.specs.World.{World, Flying}

-- What the world has in flight, and its numbers, are those of the history.
pub record FliesAlike (h : History) (w : World) : Type 0 where
  -- these frames are in flight
  pub flies : (k : ℕ) → in_flight h k ≡ map.contains_key w.flight k
  -- each is the one that was sent under its number, in its event
  pub sent : (k : ℕ) (f : Flying) → map.get w.flight k ≡ Some f → (frame h k ≡ Some f.frame) × (event_of_sending h k ≡ Some f.event)
  -- the next frame's number follows those that were given
  pub next_frame : w.next_frame ≡ frames h + 1
  pub unsent : (k : ℕ) → w.next_frame ≤ k → frame h k ≡ None
  pub event : w.event ≡ events h

-- In each turn the frame that is given, copied or lost is in flight.
abbrev pub FlyWhenNamed : History → Type 0
FlyWhenNamed [] = Unit {0}
FlyWhenNamed (t ∷ past) = FlyWhenNamed past × IsFlying past (named_number t.happening)

-- ---- numbers

-- a frame that is noted after these has the next number
abbrev pub IsNumbered : History → Remark → Type 0
IsNumbered h (Sent k f) = k ≡ frames h + 1
IsNumbered h other = Unit {0}

abbrev pub AllNumbered : Turn → History → List Remark → List Remark → Type 0
AllNumbered t past before [] = Unit {0}
AllNumbered t past before (r ∷ rs) = IsNumbered (so_far t before ∷ past) r × AllNumbered t past (before ++ r ∷ []) rs

-- Frames are numbered from 1 on, in the order in which they are noted.
abbrev pub AreNumbered : History → Type 0
AreNumbered [] = Unit {0}
AreNumbered (t ∷ past) = AreNumbered past × AllNumbered t past [] t.remarks
