-- What a docket knows of a history.
use Rattle.std.specs.Prelude.{◌≡◌, ◌==◌, ℕ, ◌+◌, ◌<◌, List, [], ◌∷◌, ◌++◌, Option, Some, None, Bool, true, false, length, option_map}
use Rattle.std.specs.List.{slice_get}
use Rattle.sl_defs.specs.Histories.{event_count}
use Rattle.sl_model.specs.Volume.{Volume}
use Rattle.sl_history.specs.Turns.{Remark, Turn, History, events, turn_of}
use Rattle.sl_history.specs.Frames.{is_down, is_up}
use Rattle.sl_history.specs.Arrivals as arrivals
use Rattle.sl_history.specs.Arrivals.{Asked, answer_to, asked, drops, drops_any}
use Rattle.sl_history.specs.Volumes.{Effect, after_note, effect, outcome, volume_after, volume_at}
use Rattle.sl_history.specs.Legal.{any_in, datagram_in, is_did, is_reply}
use Rattle.sl_datagram.specs.Datagrams.{datagram_of}
use Rattle.sl_referee.specs.declared.case.Answer.{Answer}
use Rattle.sl_referee.specs.declared.case.Case.{Case}
use Rattle.sl_referee.specs.declared.docket.Docket.{Docket}

-- The answer of the effect that the call of event n had.
pub record IsEffectOf (start : Volume) (h : History) (n : ℕ) (y : Answer) : Type 0 where
  pub a : Asked
  pub x : Effect
  pub asks : asked h n ≡ Some a
  pub has : effect start h n ≡ Some x
  pub event : y.event ≡ x.event
  pub bytes : y.bytes ≡ answer_to a (outcome a x).1

abbrev pub IsEffectIf : Volume → History → ℕ → Option Answer → Type 0
IsEffectIf start h n None = any_in (is_did n) h ≡ false
IsEffectIf start h n (Some y) = (any_in (is_did n) h ≡ true) × IsEffectOf start h n y

-- the moment of the turn, and whether it notes that event n is dropped
abbrev pub IsOfTurn : ℕ → Case → Option Turn → Type 0
IsOfTurn n c None = c.datagram ≡ None
IsOfTurn n c (Some t) = (c.moment ≡ t.moment) × (c.dropped ≡ drops_any n t.remarks)

-- The case is that of event n.
pub record IsCase (start : Volume) (h : History) (n : ℕ) (c : Case) : Type 0 where
  pub turn : IsOfTurn n c (turn_of h n)
  pub datagram : option_map datagram_of c.datagram ≡ option_map arrivals.datagram (datagram_in (turn_of h n))
  pub effect : IsEffectIf start h n c.effect
  pub replied : c.replied ≡ any_in (is_reply n) h

-- Nothing is noted of what didn't happen yet.
pub record IsUnknown (h : History) (n : ℕ) : Type 0 where
  pub undone : any_in (is_did n) h ≡ false
  pub unanswered : any_in (is_reply n) h ≡ false

-- whether the newest turn is an event
abbrev pub is_event_first : History → Bool → Type 0
is_event_first [] b = b ≡ false
is_event_first (t ∷ past) true = event_count t.happening ≡ 1
is_event_first (t ∷ past) false = event_count t.happening ≡ 0

-- The docket is that of the history, for a server that began with this volume.
pub record IsDocketOf (start : Volume) (h : History) (d : Docket) : Type 0 where
  pub count : length d.cases.items ≡ events h + 1
  pub cases : (n : ℕ) (c : Case) → slice_get d.cases.items n ≡ Some c → IsCase start h n c
  pub later : (n : ℕ) → events h < n → IsUnknown h n
  pub volume : d.volume ≡ volume_after start h
  pub ended : length d.ends.items ≡ events h
  pub ends : (n : ℕ) (v : Volume) → slice_get d.ends.items n ≡ Some v → v ≡ volume_at start h n
  pub up : d.is_proxy_up ≡ is_up h 0
  pub event : is_event_first h d.is_event

-- one case of a list is changed, and no other
pub record IsSetAt (old new : List Case) (n : ℕ) (change : Case → Case) : Type 0 where
  pub count : length new ≡ length old
  pub here : (c : Case) → slice_get old n ≡ Some c → slice_get new n ≡ Some (change c)
  pub others : (m : ℕ) → (m ≡ n → ⊥) → slice_get new m ≡ slice_get old m

abbrev pub with_effect : Answer → Case → Case
with_effect y c = record c { effect = Some y }

abbrev pub with_reply : Case → Case
with_reply c = record c { replied = true }

abbrev pub with_drop : Case → Case
with_drop c = record c { dropped = true }

-- A remark that drops the datagram of event n.
pub record IsDropOf (n : ℕ) (r : Remark) : Type 0 where
  pub drops : (m : ℕ) → drops m r ≡ (n == m)
  pub undone : (m : ℕ) → is_did m r ≡ false
  pub unanswered : (m : ℕ) → is_reply m r ≡ false
  pub keeps : (h : History) (v : Volume) → after_note h r v ≡ v
  pub up : is_down 0 r ≡ false
