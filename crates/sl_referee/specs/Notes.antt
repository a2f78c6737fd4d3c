-- What a docket does with a turn and with a note.
use Rattle.std.specs.Prelude.{◌≡◌, ◌↔◌, ℕ, [], ◌∷◌, ◌++◌, None, Bool, true, false, Result, Ok, IfErr, option_map}
use Rattle.sl_defs.specs.Histories.{Happens}
use Rattle.sl_defs.specs.declared.event.Event.{Event}
use Rattle.sl_defs.specs.declared.setup.Time.{Time}
use Rattle.sl_model.specs.Volume.{Volume}
use Rattle.sl_history.specs.Turns as turns
use Rattle.sl_history.specs.Turns.{Remark, Turn, History}
use Rattle.sl_history.specs.Arrivals as arrivals
use Rattle.sl_history.specs.Legal.{IsDrop, MayNote}
use Rattle.sl_datagram.specs.Datagrams.{datagram_of}
use Rattle.sl_referee.specs.declared.case.Case.{Case}
use Rattle.sl_referee.specs.declared.docket.Docket.{Docket}
use Rattle.sl_referee.specs.declared.fault.RefereeFault.{RefereeFault}
use Rattle.sl_history.specs.Deciding.{Says}
use Rattle.sl_referee.specs.Dockets.{IsDocketOf, IsDropOf}
use Rattle.sl_history.specs.Turns.{noted}
use Rattle.sl_referee.specs.Stops.{StopsBy}

-- The case of an event that begins.
pub record IsNewCase (event : Event) (moment : Time) (c : Case) : Type 0 where
  pub moment_is : c.moment ≡ moment
  pub datagram : option_map datagram_of c.datagram ≡ option_map arrivals.datagram (turns.datagram_of (Happens event))
  pub dropped : c.dropped ≡ false
  pub effect : c.effect ≡ None
  pub replied : c.replied ≡ false

-- A case more, and the volume as it is now for the end of the event before.
pub record IsEventBegun (event : Event) (moment : Time) (old new : Docket) : Type 0 where
  pub case : Case
  pub is : IsNewCase event moment case
  pub cases : new.cases.items ≡ old.cases.items ++ case ∷ []
  pub ends : new.ends.items ≡ old.ends.items ++ old.volume ∷ []
  pub volume : new.volume ≡ old.volume
  pub up : new.is_proxy_up ≡ old.is_proxy_up
  pub first : new.is_event ≡ old.is_event

-- The answer says whether the remark may be noted next; where it may, the docket is that of the history with it.
pub record Notes (old new : Docket) (now : Time) (r : Remark) (result : Result Bool RefereeFault) : Type 0 where
  pub decides : (start : Volume) (t : Turn) (past : History) → IsDocketOf start (t ∷ past) old → Says result (MayNote start (t ∷ past) now r)
  pub takes : result ≡ Ok true → (start : Volume) (t : Turn) (past : History) → IsDocketOf start (t ∷ past) old → IsDocketOf start (noted (t ∷ past) r) new
  pub stopped : (start : Volume) (t : Turn) (past : History) → IsDocketOf start (t ∷ past) old → IfErr result (λ fault. StopsBy fault start (t ∷ past) now r)

-- The same of any remark that drops the datagram of event n.
pub record NotesDrop (old new : Docket) (n : ℕ) (result : Bool) : Type 0 where
  pub decides : (start : Volume) (h : History) → IsDocketOf start h old → (result ≡ true) ↔ IsDrop h n
  pub takes : result ≡ true → (r : Remark) → IsDropOf n r → (start : Volume) (t : Turn) (past : History) → IsDocketOf start (t ∷ past) old
      → IsDocketOf start (noted (t ∷ past) r) new
