-- What each point of the definition asks of a case: of what came in an event, and what has become of it.
use Rattle.std.specs.Prelude.{◌≡◌, ℕ, ◌≤◌, List, Option, Some, None, Bool, true, false, ◌⊎◌}
use Rattle.std.specs.FinMap as map
use Rattle.sl_defs.specs.Histories.{Happening, Happens}
use Rattle.sl_defs.specs.declared.event.Event.TheVariants as event
use Rattle.sl_defs.specs.declared.setup.Time.{Time}
use Rattle.sl_defs.specs.declared.note.Choice.{Choice}
use Rattle.sl_types.specs.declared.call.Call.{Call}
use Rattle.sl_types.specs.Numbers.{is_ok_status}
use Rattle.sl_model.specs.Volume.{Volume}
use Rattle.sl_model.specs.Laws.{status_of}
use Rattle.sl_model.specs.Perform.{perform}
use Rattle.sl_history.specs.Turns.{Remark}
use Rattle.sl_history.specs.Arrivals as arrivals
use Rattle.sl_history.specs.Arrivals.{answer_to, datagram, is_changing}
use Rattle.sl_history.specs.Legal.{NotAfter, RepliesAtOnce, answers_at_once, is_kept, is_settled, no_choice}
use Rattle.sl_referee.specs.declared.case.Answer.{Answer}
use Rattle.sl_referee.specs.declared.case.Case.{Case}

-- The call may take effect, as far as that follows without performing it.
pub record MayBegin (c : Case) (call : Call) (v : Volume) (now at : Time) (choice : Choice) : Type 0 where
  pub changing : is_changing call ≡ true
  pub accepted : c.dropped ≡ false
  pub first : c.effect ≡ None
  pub after_arrival : NotAfter c.moment at
  pub not_later : NotAfter at now
  pub unused : (choice.fileid ≡ 0) ⊎ (map.get v.used choice.fileid ≡ None)

-- A call takes effect on this volume.
pub record TakesEffect (c : Case) (a : arrivals.Asked) (v : Volume) (now at : Time) (choice : Choice) : Type 0 where
  pub begins : MayBegin c a.call v now at choice
  pub kept : choice.kept ≡ is_kept (perform v a.call a.cred at choice).1

-- the reply is the answer of this effect
pub record IsAnswer (e : ℕ) (bytes : List ℕ) (x : Answer) : Type 0 where
  pub event : e ≡ x.event
  pub reply : bytes ≡ x.bytes

abbrev pub IsAnswerIf : ℕ → List ℕ → Option Answer → Type 0
IsAnswerIf e bytes None = ⊥
IsAnswerIf e bytes (Some x) = IsAnswer e bytes x

-- The reply to a call that only asks, where v is the volume at the end of event e, and the newest event is this one.
pub record IsLookAt (c : Case) (v : Volume) (now : Time) (n e newest : ℕ) (bytes : List ℕ) (a : arrivals.Asked) : Type 0 where
  pub accepted : c.dropped ≡ false
  pub not_before : n ≤ e
  pub not_later : e ≤ newest
  pub reply : bytes ≡ answer_to a (perform v a.call a.cred now no_choice).1
  pub settled : is_ok_status (status_of (perform v a.call a.cred now no_choice).1) ≡ true → is_settled v a.call ≡ true

-- The reply to a datagram that is answered whatever the server holds, where the newest event is this one.
pub record IsAtOnce (up : Bool) (newest n e : ℕ) (bytes answer : List ℕ) : Type 0 where
  pub is_up : up ≡ true
  pub at_arrival : n ≡ newest
  pub event : e ≡ n
  pub reply : bytes ≡ answer

-- what happens has its reply among these remarks, where it is a datagram that is answered whatever the server holds
abbrev pub RepliesIn : ℕ → List Remark → Happening → Type 0
RepliesIn n remarks (Happens (event.Call client bytes)) = RepliesAtOnce n remarks (answers_at_once (datagram bytes))
RepliesIn n remarks other = Unit {0}

-- the datagram of the case may be dropped
abbrev pub IsIdle : Option Case → Type 0
IsIdle None = Unit {0}
IsIdle (Some c) = (c.effect ≡ None) × (c.replied ≡ false)
