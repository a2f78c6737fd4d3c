-- What a history shows of what arrived and still waits.
use Rattle.std.specs.Prelude.{◌≡◌, ◌==◌, ℕ, ◌+◌, List, [], ◌∷◌, Option, Bool, false, length, option_and_then, option_map}
use Rattle.std.specs.List.{slice_get}
use Rattle.sl_defs.specs.Histories.{event_count}
use Rattle.sl_history.specs.Turns as turns
use Rattle.sl_history.specs.Turns.{Remark, Turn, History, events, turn_of}
use Rattle.sl_history.specs.Arrivals as arrivals
use Rattle.sl_history.specs.Arrivals.{drops, waiting, waits_on}
use Rattle.sl_datagram.specs.declared.datagram.Datagram.{Datagram}
use Rattle.sl_datagram.specs.Datagrams.{datagram_of}
use Rattle.sl_ledger.specs.declared.arrivals.Arrivals.{Arrivals}

-- what a turn's datagram is, where it brings one
abbrev pub brought : Turn → Option arrivals.Datagram
brought t = option_map arrivals.datagram (turns.datagram_of t.happening)

-- what the datagram of an event is
abbrev pub arrived : History → ℕ → Option arrivals.Datagram
arrived h n = option_and_then brought (turn_of h n)

-- what is kept at a place
abbrev pub same : Option Datagram → Option Datagram
same d = d

abbrev pub kept_at : List (Option Datagram) → ℕ → Option Datagram
kept_at ds n = option_and_then same (slice_get ds n)

-- the newest turn is an event
abbrev pub is_event_first : History → Bool
is_event_first [] = false
is_event_first (t ∷ past) = event_count t.happening == 1

-- These are the arrivals of the history.
pub record AreArrivalsOf (h : History) (a : Arrivals) : Type 0 where
  pub count : length a.datagrams.items ≡ events h + 1
  pub datagrams : (n : ℕ) → option_map datagram_of (kept_at a.datagrams.items n) ≡ arrived h n
  pub event : a.is_event ≡ is_event_first h
  pub waits : a.waiting.items ≡ waiting h

-- the note drops the datagram of event n, and does nothing else to calls that wait
pub record IsDropOf (n : ℕ) (r : Remark) : Type 0 where
  pub drops_it : (m : ℕ) → drops m r ≡ (n == m)
  pub keeps : (ns : List ℕ) → waits_on (r ∷ []) ns ≡ ns

-- the note does nothing to calls that wait
pub record IsQuiet (r : Remark) : Type 0 where
  pub drops_none : (m : ℕ) → drops m r ≡ false
  pub keeps : (ns : List ℕ) → waits_on (r ∷ []) ns ≡ ns
