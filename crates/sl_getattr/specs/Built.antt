-- The runs that this crate speaks of: they begin on empty disks, no call but GETATTR comes, and no actor is started again.
use Rattle.std.specs.Prelude.{◌≡◌, ℕ, List, [], ◌∷◌, Some}
use Rattle.std.specs.FinMap as map
use Rattle.sl_defs.specs.Histories.{Happening, Happens}
use Rattle.sl_defs.specs.Items.{AreBytes}
use Rattle.sl_defs.specs.declared.setup.Setup.{Setup}
use Rattle.sl_defs.specs.declared.event.Event.TheVariants as event
use Rattle.sl_types.specs.declared.call.Call.TheVariants as call
use Rattle.sl_history.specs.Turns.{History}
use Rattle.sl_history.specs.Arrivals.{Asked, Datagram, IsAsked, datagram}
use Rattle.sl_machine.specs.Memory.{Actor}
use Rattle.sl_machine.specs.World.{World}
use Rattle.sl_machine.specs.Runs.{IsInitial, TurnRun, is_opening, is_first}

-- ---- what happens

-- a GETATTR (RFC 1813, section 3.3.1)
pub record IsGetattr (q : Asked) : Type 0 where
  pub procedure : q.procedure ≡ 1
  pub object : List ℕ
  pub is : q.call ≡ call.Getattr object

-- any datagram but other calls
abbrev pub IsTaken : Datagram → Type 0
IsTaken (IsAsked q) = IsGetattr q
IsTaken other = Unit {0}

-- All but a start: each datagram is bytes, and no call but GETATTR. Frames are given, copied and lost, and actors tick, fail and
-- stop; but who is down stays down.
abbrev pub IsBuilt : Happening → Type 0
IsBuilt (Happens (event.Call client bytes)) = AreBytes bytes × IsTaken (datagram bytes)
IsBuilt (Happens (event.Start i)) = ⊥
IsBuilt other = Unit {0}

abbrev pub AreBuilt : History → Type 0
AreBuilt [] = Unit {0}
AreBuilt (t ∷ past) = AreBuilt past × IsBuilt t.happening

-- ---- from empty disks

-- nothing was ever recorded
pub record IsBlank (s : Setup) (w : World) : Type 0 where
  pub initial : IsInitial s w
  pub records : (i : ℕ) (a : Actor) → map.get w.actors i ≡ Some a → a.records ≡ []

-- A run as any other, but that it begins there.
abbrev pub NewRun : Setup → History → World → Type 0
NewRun s [] w = IsBlank s w
NewRun s (t ∷ past) w' = (w : World) × NewRun s past w × (is_opening t.happening ≡ is_first past) × TurnRun w t w'
