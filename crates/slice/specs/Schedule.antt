-- The lines of a schedule's text, the turns that a line makes, and what may be wrong with one.
use Rattle.std.specs.Prelude.{◌≡◌, ℕ, ◌-◌, ◌<◌, ◌≤◌, ◌==◌, List, [], ◌∷◌, ◌++◌, length, Option, Some, None, Bool, true, false, if◌then◌else◌, slice_index, take}
use Rattle.std.specs.List.{slice_split}
use Rattle.std.specs.Borrow.{Bor}
use Rattle.sl_defs.specs.Schedules.{line_text, FitsLine, IsLine}
use Rattle.sl_defs.specs.Histories.{Happening, Opens, Happens}
use Rattle.sl_defs.specs.declared.setup.Setup.{Setup}
use Rattle.sl_defs.specs.declared.event.Event.{Event}
use Rattle.sl_defs.specs.declared.event.Event.TheVariants as event
use Rattle.sl_defs.specs.declared.event.Line.{Line}
use Rattle.sl_defs.specs.declared.event.Line.TheVariants as line
use Rattle.sl_history.specs.Turns.{Turn, History}
use Rattle.sl_history.specs.Frames.{in_flight, named_number}
use Rattle.sl_past.specs.Transcripts.{volume_of}
use Rattle.sl_world.specs.declared.world.World.{World}
use Rattle.slice.specs.Printing.{HaveTexts}
use Rattle.sl_world.specs.Worlds.{Follows, IsBuiltEvent, IsSmall, IsSpent, KnowsFrame}

-- ---- lines

abbrev pub is_end : ℕ → Bool
is_end b = b == 10

-- without one end of line at its end
unfoldable pub without_last_end : List ℕ → List ℕ
without_last_end text = if slice_index text (length text - 1) == 10 then take (length text - 1) text else text

-- the lines of a schedule, each without its end of line
unfoldable pub lines : List ℕ → List (List ℕ)
lines text = slice_split is_end (without_last_end text)

-- the lines of what is left of it
abbrev pub lines_left : Option (Bor (List ℕ)) → List (List ℕ)
lines_left None = []
lines_left (Some rest) = slice_split is_end rest.now

-- ---- the turns that a line makes, the newest first

-- the frame of this number is the oldest one in flight
pub record IsOldestIn (h : History) (k : ℕ) : Type 0 where
  pub flies : in_flight h k ≡ true
  pub least : (j : ℕ) → in_flight h j ≡ true → k ≤ j

-- nothing is in flight
abbrev pub IsStill : History → Type 0
IsStill h = (k : ℕ) → in_flight h k ≡ false

-- each of these turns gives the frame that was then the oldest one in flight
abbrev pub GiveOldest : History → History → Type 0
GiveOldest past [] = Unit {0}
GiveOldest past (t ∷ turns) = GiveOldest past turns × (k : ℕ) × (t.happening ≡ Happens (event.Give k)) × IsOldestIn (turns ++ past) k

-- The oldest frame in flight is given so many times, or until nothing is in flight.
pub record Flows (most : ℕ) (past turns : History) : Type 0 where
  pub give : GiveOldest past turns
  pub few : length turns ≤ most
  pub still : length turns < most → IsStill (turns ++ past)

-- one turn, of this
abbrev pub IsTurnOf : Happening → History → Type 0
IsTurnOf happening turns = (t : Turn) × (turns ≡ t ∷ []) × (t.happening ≡ happening)

-- After this past the line makes these turns.
abbrev pub Makes : Line → History → History → Type 0
Makes (line.Volume setup) past turns = IsTurnOf (Opens setup) turns
Makes (line.At moment) past turns = ⊥
Makes (line.Happens e) past turns = IsTurnOf (Happens e) turns
Makes (line.Flow most) past turns = Flows most past turns
Makes (line.Remark bytes) past turns = turns ≡ []

-- it made these and has more to make
abbrev pub Pauses : Line → History → History → Type 0
Pauses (line.Flow most) past turns = GiveOldest past turns × (length turns < most)
Pauses other past turns = turns ≡ []

-- it made all, or a flow some
abbrev pub Breaks : Line → History → History → Type 0
Breaks (line.Flow most) past turns = GiveOldest past turns × (length turns ≤ most)
Breaks other past turns = Makes other past turns

-- The text spells a line that may stand behind this past, of which this holds.
pub record Spells (past : History) (text : List ℕ) (P : Line → Type 0) : Type 0 where
  pub spelled_line : Line
  pub spelled : text ≡ line_text spelled_line
  pub in_place : IsLine (volume_of past) spelled_line
  pub holds : P spelled_line

-- ---- a line that isn't performed

-- the event names a frame that isn't in flight
abbrev pub NamesNone : History → Event → Type 0
NamesNone past e = (k : ℕ) × (named_number (Happens e) ≡ Some k) × (in_flight past k ≡ false)

-- the line is such an event
abbrev pub IsUnknown : History → Line → Type 0
IsUnknown past (line.Happens e) = NamesNone past e
IsUnknown past other = ⊥

-- It spells no line that may stand in its place, or an event that names a frame that isn't in flight.
pub data IsBad (past : History) (text : List ℕ) : Type 0 where
  SpellsNone : ((l : Line) → FitsLine l → IsLine (volume_of past) l → text ≡ line_text l → ⊥) → IsBad past text
  SpellsUnknown : Spells past text (IsUnknown past) → IsBad past text

-- The world of this history doesn't perform the event, since it isn't built; the frame that it names is in flight.
pub record IsRefused (h : History) (e : Event) : Type 0 where
  pub world : World
  pub follows : Follows world h
  pub knows : KnowsFrame world e
  pub unbuilt : IsBuiltEvent world e → ⊥

-- This turn may follow, but a note of it isn't printed.
pub record IsUnprinted (h : History) (t : Turn) : Type 0 where
  pub world : World
  pub follows : Follows world (t ∷ h)
  pub unprinted : HaveTexts t.remarks → ⊥

-- What this event asks for isn't built.
pub data IsUnbuiltEvent (h : History) (e : Event) : Type 0 where
  Refused : IsRefused h e → IsUnbuiltEvent h e
  Unprinted : (t : Turn) → t.happening ≡ Happens e → IsUnprinted h t → IsUnbuiltEvent h e

-- Nor what the opening of this volume does.
pub data IsUnbuiltVolume (setup : Setup) : Type 0 where
  NotSmall : (IsSmall setup → ⊥) → IsUnbuiltVolume setup
  UnprintedOpening : (t : Turn) → t.happening ≡ Opens setup → IsUnprinted [] t → IsUnbuiltVolume setup

-- What the line asks for next isn't built, when it has made these turns.
abbrev pub IsUnbuilt : Line → History → History → Type 0
IsUnbuilt (line.Volume setup) past turns = IsUnbuiltVolume setup
IsUnbuilt (line.At moment) past turns = Unit {0}
IsUnbuilt (line.Happens e) past turns = IsUnbuiltEvent past e
IsUnbuilt (line.Flow most) past turns = (k : ℕ) × IsOldestIn (turns ++ past) k × IsUnbuiltEvent (turns ++ past) (event.Give k)
IsUnbuilt (line.Remark bytes) past turns = ⊥

-- a count of the world of this history stands at its last value
pub record IsSpentAfter (h : History) : Type 0 where
  pub world : World
  pub follows : Follows world h
  pub spent : IsSpent world
