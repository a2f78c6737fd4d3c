-- Histories of the whole ensemble, the newest turn first, and their printed text.
use Rattle.std.specs.Prelude.{ℕ, ◌+◌, ◌==◌, List, [], ◌∷◌, ◌++◌, Option, Some, None, Bool, ◌&&◌, map, if◌then◌else◌}
use Rattle.sl_defs.specs.Histories.{Happening, Opens, Reaches, Happens, event_count}
use Rattle.sl_defs.specs.Histories as defs
use Rattle.sl_defs.specs.declared.setup.Time.{Time}
use Rattle.sl_defs.specs.declared.event.Event.TheVariants as event
use Rattle.sl_defs.specs.declared.note.Choice.{Choice}
use Rattle.sl_defs.specs.declared.note.Printed.{Printed}
use Rattle.sl_defs.specs.declared.note.Printed.TheVariants as printed
use Rattle.sl_frames.specs.declared.frame.Frame.{Frame}
use Rattle.sl_frames.specs.Frames.{frame_text}

-- What is noted of a turn, one thing after another. It is a note of a transcript, but that a frame stands there whole.
pub data Remark : Type 0 where
  -- the frame of this number was sent
  Sent : ℕ → Frame → Remark
  -- the call that arrived in this event took effect at this moment
  Did : ℕ → Time → Choice → Remark
  -- the unstable writes of this file became stable
  Flush : ℕ → Remark
  -- all unstable writes are lost, and this is the write verifier
  Verf : ℕ → Remark
  -- the reply to the call of the first event, whose answer is that of the second
  Replied : ℕ → ℕ → List ℕ → Remark
  -- a datagram that is no call; one that came too early, or while too many waited; and one that found the proxy down
  Junk : ℕ → Remark
  Early : ℕ → Remark
  Full : ℕ → Remark
  Lost : ℕ → Remark
  -- this actor went down, or could not be opened
  Down : ℕ → Remark

pub record Turn : Type 0 where
  pub happening : Happening
  pub moment : Time
  pub remarks : List Remark

-- the newest turn first
abbrev pub History : Type 0
History = List Turn

-- ---- as a transcript prints it

abbrev pub note_of : Remark → Printed
note_of (Sent k f) = printed.Sent k (frame_text f)
note_of (Did n at choice) = printed.Did n at choice
note_of (Flush f) = printed.Flush f
note_of (Verf v) = printed.Verf v
note_of (Replied n e bytes) = printed.Reply n e bytes
note_of (Junk n) = printed.Junk n
note_of (Early n) = printed.Early n
note_of (Full n) = printed.Full n
note_of (Lost n) = printed.Lost n
note_of (Down a) = printed.Down a

abbrev pub printed_turn : Turn → defs.Turn
printed_turn t = record { happening = t.happening; moment = t.moment; notes = map note_of t.remarks }

-- the history whose text is the transcript
abbrev pub transcript_of : History → defs.History
transcript_of h = map printed_turn h

-- ---- events

-- How many events there were. They are numbered from 1, so this is the number of the newest one.
abbrev pub events : History → ℕ
events [] = 0
events (t ∷ past) = events past + event_count t.happening

-- the turn stopped before its next note: only these are noted yet
abbrev pub so_far : Turn → List Remark → Turn
so_far t remarks = record t { remarks = remarks }

-- the history with a turn of which nothing is noted yet
abbrev pub begun : History → Happening → Time → History
begun past happening moment = record { happening = happening; moment = moment; remarks = [] } ∷ past

-- the history with one remark more of its newest turn
abbrev pub noted : History → Remark → History
noted [] r = []
noted (t ∷ past) r = so_far t (t.remarks ++ r ∷ []) ∷ past

-- the datagram that a happening brings
abbrev pub datagram_of : Happening → Option (List ℕ)
datagram_of (Happens (event.Call client bytes)) = Some bytes
datagram_of other = None

-- the turn of an event
abbrev pub is_event : History → Turn → ℕ → Bool
is_event past t n = event_count t.happening == 1 && events past + 1 == n

unfoldable pub turn_of : History → ℕ → Option Turn
turn_of [] n = None
turn_of (t ∷ past) n = if is_event past t n then Some t else turn_of past n
