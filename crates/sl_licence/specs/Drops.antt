-- How the proxy meets datagrams.
use Rattle.std.specs.Prelude.{ℕ, List, Option, Some, None, Bool, true, false, nat_le, length, option_map}
use Rattle.sl_history.specs.Turns.{History, Remark, Junk, Early, Full, Lost}
use Rattle.sl_history.specs.Frames.{is_up}
use Rattle.sl_history.specs.Arrivals as arrivals
use Rattle.sl_history.specs.Arrivals.{is_welcomed, most_waiting, waiting}
use Rattle.sl_history.specs.Licensed.{option_list}
use Rattle.sl_licence.specs.declared.drops.Door.{Door}
use Rattle.sl_licence.specs.declared.drops.Door.TheVariants as door
use Rattle.sl_licence.specs.declared.drops.Dropped.{Dropped}
use Rattle.sl_licence.specs.declared.drops.Dropped.TheVariants as dropped

abbrev pub note_of : Dropped → Remark
note_of (dropped.Junk n) = Junk n
note_of (dropped.Early n) = Early n
note_of (dropped.Full n) = Full n
note_of (dropped.Lost n) = Lost n

-- the notes that drop this
abbrev pub notes_of : Option Dropped → List Remark
notes_of d = option_list (option_map note_of d)

-- what a note drops
abbrev pub drop_in : Remark → Option Dropped
drop_in (Junk n) = Some (dropped.Junk n)
drop_in (Early n) = Some (dropped.Early n)
drop_in (Full n) = Some (dropped.Full n)
drop_in (Lost n) = Some (dropped.Lost n)
drop_in other = None

abbrev pub met_by : Bool → Bool → Bool → Door
met_by false welcomed full = door.Down
met_by true false full = door.Unwelcomed
met_by true true true = door.Full
met_by true true false = door.Open

-- how the proxy meets a datagram that comes next
abbrev pub next_met : History → Door
next_met h = met_by (is_up h 0) (is_welcomed h) (nat_le most_waiting (length (waiting h)))

-- what drops a datagram of event n that is met so
abbrev pub dropped_at : Door → ℕ → arrivals.Datagram → Option Dropped
dropped_at door.Down n d = Some (dropped.Lost n)
dropped_at met n arrivals.IsJunk = Some (dropped.Junk n)
dropped_at met n (arrivals.IsAnswered reply) = None
dropped_at door.Unwelcomed n (arrivals.IsAsked a) = Some (dropped.Early n)
dropped_at door.Full n (arrivals.IsAsked a) = Some (dropped.Full n)
dropped_at door.Open n (arrivals.IsAsked a) = None
