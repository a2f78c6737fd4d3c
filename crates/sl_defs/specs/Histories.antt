-- Histories: what happened, with what was noted of it; the text in which a history is printed; and which histories
-- of datagrams are those of a server.
use Rattle.std.specs.Prelude.{◌≡◌, ℕ, ◌+◌, List, [], ◌∷◌, ◌++◌, Some, All, Contains, ◌↔◌}
use Rattle.sl_defs.specs.Rpc.{CallHeader, BeginsWithHeader, HasNoHeader, immediate_reply}
use Rattle.sl_defs.specs.Schedules.{line_text}
use Rattle.sl_defs.specs.Transcripts.{note_text}
use Rattle.sl_defs.specs.declared.setup.Setup.{Setup}
use Rattle.sl_defs.specs.declared.setup.Time.{Time}
use Rattle.sl_defs.specs.declared.event.Event.{Event}
use Rattle.sl_defs.specs.declared.event.Event.TheVariants as event
use Rattle.sl_defs.specs.declared.event.Line.{Line}
use Rattle.sl_defs.specs.declared.event.Line.TheVariants as line
use Rattle.sl_defs.specs.declared.note.Printed.{Printed}
use Rattle.sl_defs.specs.declared.note.Printed.TheVariants as note

-- what a turn is of: the world is opened, the moment is set, or an event
pub data Happening : Type 0 where
  Opens : Setup → Happening
  Reaches : Time → Happening
  Happens : Event → Happening

-- what happened, at which moment, and its notes in the order in which they came
pub record Turn : Type 0 where
  pub happening : Happening
  pub moment : Time
  pub notes : List Printed

-- a history is a list of turns, the newest first
abbrev pub History : Type 0
History = List Turn

-- ---- its printed text

-- the line of a schedule that makes it happen
abbrev pub line_of : Happening → Line
line_of (Opens setup) = line.Volume setup
line_of (Reaches moment) = line.At moment
line_of (Happens e) = line.Happens e

-- each with an end of line
abbrev pub ended : List ℕ → List ℕ
ended text = text ++ 10 ∷ []

unfoldable pub notes_text : List Printed → List ℕ
notes_text [] = []
notes_text (n ∷ ns) = ended (note_text n) ++ notes_text ns

-- the line, and then the notes
unfoldable pub turn_text : Turn → List ℕ
turn_text t = ended (line_text (line_of t.happening)) ++ notes_text t.notes

unfoldable pub history_text : History → List ℕ
history_text [] = []
history_text (t ∷ past) = history_text past ++ turn_text t

-- the lines without the notes, the oldest first
unfoldable pub lines_of : History → List (List ℕ)
lines_of [] = []
lines_of (t ∷ past) = lines_of past ++ line_text (line_of t.happening) ∷ []

-- ---- numbers of events

abbrev pub event_count : Happening → ℕ
event_count (Opens setup) = 0
event_count (Reaches moment) = 0
event_count (Happens e) = 1

-- how many events there were
abbrev pub events : History → ℕ
events [] = 0
events (t ∷ past) = events past + event_count t.happening

-- the event's number, where it is the next one
abbrev pub next_event : History → ℕ
next_event past = events past + 1

-- ---- what is legal

-- The datagram is answered at its arrival with this reply, whatever the server holds (RFC 5531, section 9; RFC 1813,
-- section 3.3.0).
pub record CallsForReply (datagram reply : List ℕ) : Type 0 where
  pub header : CallHeader
  pub args : ℕ
  pub begins : BeginsWithHeader datagram header args
  pub immediate : immediate_reply header ≡ Some reply

-- a reply to that call
abbrev pub IsReplyTo : ℕ → Printed → Type 0
IsReplyTo n (note.Reply arrival event bytes) = arrival ≡ n
IsReplyTo n _ = ⊥

-- What may be noted in event n of a datagram's arrival, behind these notes: that it is junk, where it has no whole
-- call header, or its one reply.
abbrev pub MayNote : ℕ → List ℕ → List Printed → Printed → Type 0
MayNote n datagram before (note.Junk arrival) = (arrival ≡ n) × HasNoHeader datagram
MayNote n datagram before (note.Reply arrival event bytes) =
    (arrival ≡ n) × (event ≡ n) × CallsForReply datagram bytes × All (λ p. IsReplyTo n p → ⊥) before
MayNote n datagram before _ = ⊥

-- each note, behind those before it
abbrev pub MayNoteAll : ℕ → List ℕ → List Printed → List Printed → Type 0
MayNoteAll n datagram before [] = Unit {0}
MayNoteAll n datagram before (p ∷ ps) = MayNote n datagram before p × MayNoteAll n datagram (before ++ p ∷ []) ps

-- What event n of a datagram's arrival must note: exactly a datagram without a whole call header is junk, and one
-- that is answered at its arrival has its reply.
pub record IsArrival (n : ℕ) (datagram : List ℕ) (notes : List Printed) : Type 0 where
  pub may : MayNoteAll n datagram [] notes
  pub junk : Contains notes (note.Junk n) ↔ HasNoHeader datagram
  pub replied : (reply : List ℕ) → CallsForReply datagram reply → Contains notes (note.Reply n n reply)

-- nothing is noted of what is no arrival
abbrev pub IsTurn : ℕ → Happening → List Printed → Type 0
IsTurn n (Happens (event.Call client datagram)) notes = IsArrival n datagram notes
IsTurn n _ notes = notes ≡ []

-- A history of datagrams that are answered at their arrival, or are junk, is legal: each turn is, given those before.
abbrev pub Legal : History → Type 0
Legal [] = Unit {0}
Legal (t ∷ past) = Legal past × IsTurn (next_event past) t.happening t.notes
