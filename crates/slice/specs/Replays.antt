-- What a run does, by its status.
use Rattle.std.specs.Prelude.{◌≡◌, ℕ, ◌+◌, ◌<◌, ◌≤◌, ◌⊎◌, List, [], ◌∷◌, ◌++◌, length, codes, Option, Some, Result, MatchResult, All, string_bytes, String}
use Rattle.std.specs.Global.{Global}
use Rattle.std.specs.Io.KnownBytes.{Appends, Keeps, Consumes, IsAtEnd}
use Rattle.sl_defs.specs.Histories.{ended, history_text}
use Rattle.sl_defs.specs.declared.setup.Setup.{Setup}
use Rattle.sl_defs.specs.declared.event.Line.{Line}
use Rattle.sl_defs.specs.declared.event.Line.TheVariants as line
use Rattle.sl_model.specs.Perform.{fresh}
use Rattle.sl_history.specs.Legal.{Legal}
use Rattle.sl_history.specs.Licensed.{Licensed}
use Rattle.sl_history.specs.Wired.{Wired}
use Rattle.sl_history.specs.Fenced.{Fenced}
use Rattle.sl_history.specs.Remembering.{Remembers}
use Rattle.sl_getattr.specs.Built.{AreBuilt}
use Rattle.sl_history.specs.Turns.{Remark, History, transcript_of}
use Rattle.sl_past.specs.Transcripts.{volume_of, remarks_text}
use Rattle.sl_world.specs.declared.world.World.{World}
use Rattle.sl_world.specs.declared.world.WorldFault.{WorldFault}
use Rattle.sl_world.specs.declared.world.WorldFault.TheVariants as fault
use Rattle.sl_world.specs.Worlds.{Follows}
use Rattle.sl_arrivals.specs.Arrivals.{AnswersAtOnce}
use Rattle.slice.specs.Outside.{TookFront, Rose}
use Rattle.slice.specs.Printing.{HaveTexts}
use Rattle.slice.specs.Schedule.{lines, Makes, Pauses, Breaks, Spells, GiveOldest, IsBad, IsUnbuilt, IsUnknown, IsSpentAfter}
use Rattle.slice.specs.declared.status.Stop.{Stop}
use Rattle.slice.specs.declared.status.Stop.TheVariants as stop
use Rattle.slice.specs.declared.status.ReadEnd.{ReadEnd}
use Rattle.slice.specs.declared.status.ReadEnd.TheVariants as read
use Rattle.slice.specs.declared.status.Status.{Status}
use Rattle.slice.specs.declared.status.Status.TheVariants.{Done, ReadFault, WriteFault, BadLine, NoMemory, BadWords, TooLong, Unbuilt, Spent}

-- ---- lines performed, and those left

-- a line of the source that was performed, and the turns that it made, the newest first
pub record Passage : Type 0 where
  pub text : List ℕ
  pub turns : History

-- the history of lines that were performed, of which the newest comes first
abbrev pub history_of : List Passage → History
history_of [] = []
history_of (p ∷ ps) = p.turns ++ history_of ps

-- the lines themselves, the oldest first
abbrev pub texts_of : List Passage → List (List ℕ)
texts_of [] = []
texts_of (p ∷ ps) = texts_of ps ++ p.text ∷ []

-- each is a line that may stand in its place, and made its turns
abbrev pub ArePassages : List Passage → Type 0
ArePassages [] = Unit {0}
ArePassages (p ∷ ps) = ArePassages ps × Spells (history_of ps) p.text (λ l. Makes l (history_of ps) p.turns)

-- why a line that made these turns was not performed to its end
abbrev pub WhyOf : Stop → Line → History → History → Type 0
WhyOf stop.WriteFault l past turns = Breaks l past turns
WhyOf stop.Bad l past turns = (turns ≡ []) × IsUnknown past l
WhyOf stop.Unbuilt l past turns = Pauses l past turns × IsUnbuilt l past turns
WhyOf stop.Spent l past turns = Pauses l past turns × IsSpentAfter (turns ++ past)
WhyOf stop.NoMemory l past turns = Pauses l past turns

-- The same of a text. A bad one spells no line, and without memory it may not have been read.
abbrev pub Why : Stop → History → List ℕ → History → Type 0
Why stop.Bad past text turns = (turns ≡ []) × IsBad past text
Why stop.NoMemory past text turns = (turns ≡ []) ⊎ Spells past text (λ l. WhyOf stop.NoMemory l past turns)
Why why past text turns = Spells past text (λ l. WhyOf why l past turns)

-- Line k is the first that isn't performed to its end. The history is that of the lines before it, and the turns that it made.
pub record StopsAt (why : Stop) (source : List ℕ) (h : History) (k : ℕ) : Type 0 where
  pub passed : List Passage
  pub passages : ArePassages passed
  pub text : List ℕ
  pub rest : List (List ℕ)
  pub lines_are : lines source ≡ texts_of passed ++ text ∷ rest
  pub number : k ≡ length passed + 1
  pub turns : History
  pub because : Why why (history_of passed) text turns
  pub history_is : h ≡ turns ++ history_of passed

-- All lines of the source were performed.
pub record Finishes (source : List ℕ) (h : History) : Type 0 where
  pub passed : List Passage
  pub passages : ArePassages passed
  pub lines_are : lines source ≡ texts_of passed
  pub history_is : h ≡ history_of passed

-- what a status says of the lines that were performed
abbrev pub Ends : Status → List ℕ → History → Type 0
Ends Done source h = Finishes source h
Ends (BadLine k) source h = StopsAt stop.Bad source h k
Ends (Unbuilt k) source h = StopsAt stop.Unbuilt source h k
Ends Spent source h = (k : ℕ) × StopsAt stop.Spent source h k
Ends WriteFault source h = (k : ℕ) × StopsAt stop.WriteFault source h k
Ends NoMemory source h = (k : ℕ) × StopsAt stop.NoMemory source h k
Ends ReadFault source h = ⊥
Ends BadWords source h = ⊥
Ends TooLong source h = ⊥

-- what the sink took of the transcript: all of it, or after a fault a front
abbrev pub Took : Status → Option (List ℕ) → Option (List ℕ) → List ℕ → Type 0
Took WriteFault old new text = TookFront old new text
Took _ old new text = Appends old new text

-- The world has this history: it has a run of the machine from empty disks to what the world stands for. Its volume is
-- known, and has one directory server.
pub record Stood (v : World) (h : History) : Type 0 where
  pub follows : Follows v h
  pub volume : volume_of h ≡ Some v.proxy.setup
  pub one : v.proxy.setup.dirs ≡ 1

-- nothing happened, or this is the history of a world
abbrev pub IsHistory : History → Type 0
IsHistory [] = Unit {0}
IsHistory (t ∷ past) = (v : World) × Stood v (t ∷ past)

-- The history of a volume that was new keeps what is claimed: it is that of one server, drops, flushes and keeps what it may,
-- its frames, servers and fences play their parts, and what was told isn't asked for again.
pub record KeepsClaims (s : Setup) (h : History) : Type 0 where
  pub legal : Legal (fresh s.volume) h
  pub licensed : Licensed (fresh s.volume) h
  pub wired : Wired s (fresh s.volume) h
  pub fenced : Fenced h
  pub remembers : Remembers h

-- Where each datagram that is a call is a GETATTR, or is answered whatever the server holds, it keeps the claims.
abbrev pub IsClaimed : History → Type 0
IsClaimed h = (s : Setup) → volume_of h ≡ Some s → AreBuilt h → KeepsClaims s h

-- Lines of the source were performed, each in its place: what happened is a history of the machine, in which each datagram
-- that needs no server is answered at once, and which keeps what is claimed where no call but GETATTR came. The sink took its
-- transcript.
pub record Performs (outcome : Status) (source : List ℕ) (old new : Option (List ℕ)) : Type 0 where
  pub history : History
  pub is : IsHistory history
  pub answers : AnswersAtOnce history
  pub claimed : IsClaimed history
  pub ends : Ends outcome source history
  pub took : Took outcome old new (history_text (transcript_of history))

-- ---- reading

-- the source gave these bytes, up to its end
pub record GaveAll (old new : Option (List ℕ)) (bytes : List ℕ) : Type 0 where
  pub consumed : Consumes old new bytes
  pub end : IsAtEnd new
  pub short : length bytes ≤ 67108864

-- the source gave some bytes, one more than the limit at most
pub record Gave (old new : Option (List ℕ)) : Type 0 where
  pub bytes : List ℕ
  pub consumed : Consumes old new bytes
  pub bounded : length bytes ≤ 67108865

-- it gave more than the limit
pub record GaveMore (old new : Option (List ℕ)) : Type 0 where
  pub bytes : List ℕ
  pub consumed : Consumes old new bytes
  pub more : 67108864 < length bytes
  pub bounded : length bytes ≤ 67108865

abbrev pub ReadStops : ReadEnd → Option (List ℕ) → Option (List ℕ) → Type 0
ReadStops read.ReadFault old new = Gave old new
ReadStops read.TooLong old new = GaveMore old new
ReadStops read.NoMemory old new = Gave old new

abbrev pub ReadBlames : ReadEnd → ℕ → ℕ → Type 0
ReadBlames read.ReadFault before now = Rose before now
ReadBlames read.TooLong before now = Unit {0}
ReadBlames read.NoMemory before now = Unit {0}

-- one read through a block of this length: n bytes were taken and added, none only at the end
pub record AddsBlock (left_old left_new : Option (List ℕ)) (room : ℕ) (old new : List ℕ) (n : ℕ) : Type 0 where
  pub bytes : List ℕ
  pub consumed : Consumes left_old left_new bytes
  pub added : new ≡ old ++ bytes
  pub count : length bytes ≡ n
  pub fits : n ≤ room
  pub end : n ≡ 0 → IsAtEnd left_new

-- a read that failed took nothing; one whose bytes found no room took some
abbrev pub TakesBlock : ReadEnd → Option (List ℕ) → Option (List ℕ) → ℕ → Type 0
TakesBlock read.ReadFault left_old left_new room = Keeps left_old left_new
TakesBlock read.TooLong left_old left_new room = ⊥
TakesBlock read.NoMemory left_old left_new room = (bytes : List ℕ) × Consumes left_old left_new bytes × (length bytes ≤ room)

-- ---- the run

-- the one word `replay`
abbrev pub IsReplay : List (String Global) → Type 0
IsReplay words = (length words ≡ 1) × All (λ w. string_bytes w ≡ codes "replay") words

-- The source was read to its end, and its lines were performed.
pub record Replays (outcome : Status) (left_old left_new held_old held_new : Option (List ℕ)) : Type 0 where
  pub source : List ℕ
  pub gave : GaveAll left_old left_new source
  pub performs : Performs outcome source held_old held_new

-- what a run did
abbrev pub IsRun : Status → Option (List ℕ) → Option (List ℕ) → Option (List ℕ) → Option (List ℕ) → Type 0
IsRun Done left_old left_new held_old held_new = Replays Done left_old left_new held_old held_new
IsRun WriteFault left_old left_new held_old held_new = Replays WriteFault left_old left_new held_old held_new
IsRun (BadLine k) left_old left_new held_old held_new = Replays (BadLine k) left_old left_new held_old held_new
IsRun (Unbuilt k) left_old left_new held_old held_new = Replays (Unbuilt k) left_old left_new held_old held_new
IsRun Spent left_old left_new held_old held_new = Replays Spent left_old left_new held_old held_new
IsRun NoMemory left_old left_new held_old held_new = (Gave left_old left_new × Keeps held_old held_new) ⊎ Replays NoMemory left_old left_new held_old held_new
IsRun ReadFault left_old left_new held_old held_new = Gave left_old left_new × Keeps held_old held_new
IsRun TooLong left_old left_new held_old held_new = GaveMore left_old left_new × Keeps held_old held_new
IsRun BadWords left_old left_new held_old held_new = Keeps left_old left_new × Keeps held_old held_new

-- ---- one line after the other

-- the text of these turns
abbrev pub text_of : History → List ℕ
text_of h = history_text (transcript_of h)

-- what the sink took of a text, at such a stop
abbrev pub TookAt : Stop → Option (List ℕ) → Option (List ℕ) → List ℕ → Type 0
TookAt stop.WriteFault old new text = TookFront old new text
TookAt _ old new text = Appends old new text

-- Behind this past the line was performed, in this world then.
pub record Passes (l : Line) (past : History) (v : World) (old new : Option (List ℕ)) : Type 0 where
  pub turns : History
  pub makes : Makes l past turns
  pub stood : Stood v (turns ++ past)
  pub took : Appends old new (text_of turns)

-- or it was not
pub record Stops (why : Stop) (l : Line) (past : History) (old new : Option (List ℕ)) : Type 0 where
  pub turns : History
  pub because : WhyOf why l past turns
  pub is : IsHistory (turns ++ past)
  pub took : TookAt why old new (text_of turns)

abbrev pub LineDone : Result Unit Stop → Line → History → World → Option (List ℕ) → Option (List ℕ) → Type 0
LineDone outcome l past v old new = MatchResult outcome (λ _. Passes l past v old new) (λ why. Stops why l past old new)

abbrev pub OpeningDone : Result World Stop → Setup → Option (List ℕ) → Option (List ℕ) → Type 0
OpeningDone outcome setup old new = MatchResult outcome (λ v. Passes (line.Volume setup) [] v old new) (λ why. Stops why (line.Volume setup) [] old new)

-- the same of a line's text
pub record PassesText (text : List ℕ) (past : History) (v : World) (old new : Option (List ℕ)) : Type 0 where
  pub turns : History
  pub spells : Spells past text (λ l. Makes l past turns)
  pub stood : Stood v (turns ++ past)
  pub took : Appends old new (text_of turns)

pub record StopsText (why : Stop) (text : List ℕ) (past : History) (old new : Option (List ℕ)) : Type 0 where
  pub turns : History
  pub because : Why why past text turns
  pub is : IsHistory (turns ++ past)
  pub took : TookAt why old new (text_of turns)

abbrev pub TextDone : Result Unit Stop → List ℕ → History → World → Option (List ℕ) → Option (List ℕ) → Type 0
TextDone outcome text past v old new = MatchResult outcome (λ _. PassesText text past v old new) (λ why. StopsText why text past old new)

-- the first line was performed, which opened the volume, or it was not
abbrev pub FirstDone : Result World Stop → List ℕ → Option (List ℕ) → Option (List ℕ) → Type 0
FirstDone outcome text old new = MatchResult outcome (λ v. PassesText text [] v old new) (λ why. StopsText why text [] old new)

-- some bytes were written, or why not
abbrev pub WriteStops : Stop → List ℕ → Option (List ℕ) → Option (List ℕ) → Type 0
WriteStops stop.WriteFault bytes old new = TookFront old new bytes
WriteStops stop.NoMemory bytes old new = Keeps old new
WriteStops _ bytes old new = ⊥

abbrev pub Wrote : Result Unit Stop → List ℕ → Option (List ℕ) → Option (List ℕ) → Type 0
Wrote outcome bytes old new = MatchResult outcome (λ _. Appends old new bytes) (λ why. WriteStops why bytes old new)

-- A line and its notes were written. Where a note isn't printed, nothing was.
abbrev pub TurnStops : Stop → List ℕ → List Remark → Option (List ℕ) → Option (List ℕ) → Type 0
TurnStops stop.Unbuilt text remarks old new = (HaveTexts remarks → ⊥) × Keeps old new
TurnStops why text remarks old new = WriteStops why (ended text ++ remarks_text remarks) old new

abbrev pub WroteTurn : Result Unit Stop → List ℕ → List Remark → Option (List ℕ) → Option (List ℕ) → Type 0
WroteTurn outcome text remarks old new = MatchResult outcome (λ _. Appends old new (ended text ++ remarks_text remarks)) (λ why. TurnStops why text remarks old new)

-- a write fault comes only where the sink's count of faults rose
abbrev pub StopBlames : Stop → ℕ → ℕ → Type 0
StopBlames stop.WriteFault before now = Rose before now
StopBlames _ before now = Unit {0}

pub record StopCounts {T : Type 0} (before now : ℕ) (outcome : Result T Stop) : Type 0 where
  pub later : before ≤ now
  pub failed : MatchResult outcome (λ _. Unit {0}) (λ why. StopBlames why before now)

-- why a line isn't performed, where the world doesn't perform its event
abbrev pub stop_by : WorldFault → Stop
stop_by (fault.UnknownFrame k) = stop.Bad
stop_by fault.NotBuilt = stop.Unbuilt
stop_by fault.Spent = stop.Spent
stop_by fault.NoMemory = stop.NoMemory

-- the status of a run that stops at line k
abbrev pub status_at : Stop → ℕ → Status
status_at stop.WriteFault k = WriteFault
status_at stop.Bad k = BadLine k
status_at stop.Unbuilt k = Unbuilt k
status_at stop.Spent k = Spent
status_at stop.NoMemory k = NoMemory

-- The lines so far are performed, and these are left; k is the number of the next one.
pub record Sofar (source : List ℕ) (v : World) (left : List (List ℕ)) (k : ℕ) (old now : Option (List ℕ)) : Type 0 where
  pub passed : List Passage
  pub passages : ArePassages passed
  pub lines_are : lines source ≡ texts_of passed ++ left
  pub number : k ≡ length passed + 1
  pub stood : Stood v (history_of passed)
  pub took : Appends old now (text_of (history_of passed))

-- ---- a flow

-- So many frames were given, each the oldest one in flight.
pub record Flowing (past : History) (n : ℕ) (v : World) (old now : Option (List ℕ)) : Type 0 where
  pub turns : History
  pub give : GiveOldest past turns
  pub count : length turns ≡ n
  pub stood : Stood v (turns ++ past)
  pub took : Appends old now (text_of turns)
