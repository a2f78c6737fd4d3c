-- What is noted of datagrams that no server is asked about.
use Rattle.std.specs.Prelude.{◌≡◌, ℕ, ◌+◌, List, [], ◌∷◌, Bool, true, false}
use Rattle.std.specs.FinMap as map
use Rattle.sl_defs.specs.Histories.{Happening, Happens}
use Rattle.sl_defs.specs.declared.setup.Setup.{Setup}
use Rattle.sl_defs.specs.declared.event.Event.TheVariants as event
use Rattle.sl_history.specs.Turns.{Remark, Turn, History, events}
use Rattle.sl_history.specs.Turns as note
use Rattle.sl_history.specs.Arrivals.{Datagram, IsJunk, IsAnswered, IsAsked, datagram}
use Rattle.sl_machine.specs.World.{World}
use Rattle.sl_history.specs.Frames as history
use Rattle.sl_machine.specs.Runs.{Run, TurnRun, is_up}

-- of a datagram that no server is asked about, in its event
abbrev pub AreNotes : ℕ → Datagram → List Remark → Type 0
AreNotes n IsJunk remarks = remarks ≡ note.Junk n ∷ []
AreNotes n (IsAnswered answer) remarks = remarks ≡ note.Replied n n answer ∷ []
AreNotes n (IsAsked a) remarks = Unit {0}

-- and of every datagram, where the proxy is down
abbrev pub AreNotesIf : Bool → ℕ → Datagram → List Remark → Type 0
AreNotesIf true n d remarks = AreNotes n d remarks
AreNotesIf false n d remarks = remarks ≡ note.Lost n ∷ []

abbrev pub ArrivalsAreNoted : Type 0
ArrivalsAreNoted =
    (w w' : World) (t : Turn) (client : ℕ) (bytes : List ℕ) → t.happening ≡ Happens (event.Call client bytes) → TurnRun w t w'
    → AreNotesIf (is_up (map.get w.actors 0)) (w.event + 1) (datagram bytes) t.remarks

-- ---- in a history

-- what is noted of a turn, if it is a datagram's
abbrev pub AreNotesOf : History → Turn → Happening → Type 0
AreNotesOf past t (Happens (event.Call client bytes)) = AreNotesIf (history.is_up past 0) (events (t ∷ past)) (datagram bytes) t.remarks
AreNotesOf past t other = Unit {0}

-- Each datagram has the notes that it must have, in its turn.
abbrev pub AnswersAtOnce : History → Type 0
AnswersAtOnce [] = Unit {0}
AnswersAtOnce (t ∷ past) = AnswersAtOnce past × AreNotesOf past t t.happening

abbrev pub RunsAnswerAtOnce : Type 0
RunsAnswerAtOnce = (setup : Setup) (h : History) (w : World) → Run setup h w → AnswersAtOnce h
