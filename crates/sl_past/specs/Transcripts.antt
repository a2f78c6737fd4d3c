-- The text of a history, and which histories a transcript may be of.
use Rattle.std.specs.Prelude.{◌≡◌, ◌≢◌, ◌==◌, ℕ, List, [], ◌∷◌, Bool, false, Option, Some, None, All, map}
use Rattle.sl_defs.specs.Histories.{Happening, Opens, Reaches, line_of, notes_text, history_text}
use Rattle.sl_defs.specs.Schedules.{FitsLine, IsLine}
use Rattle.sl_defs.specs.Transcripts.{FitsNote, IsNote}
use Rattle.sl_defs.specs.declared.setup.Setup.{Setup}
use Rattle.sl_defs.specs.declared.setup.Time.{Time}
use Rattle.sl_frames.specs.Frames.{FitsFrame}
use Rattle.sl_history.specs.Turns.{Remark, Sent, Turn, History, note_of, transcript_of}

-- ---- text

-- no end of line stands in it
abbrev pub HasNoEnd : List ℕ → Type 0
HasNoEnd text = All (λ b. b ≢ 10) text

-- it begins with `=`, as notes do and no other line
abbrev pub begins_note : List ℕ → Bool
begins_note [] = false
begins_note (b ∷ bs) = b == 61

-- the notes of remarks, each with its end of line
abbrev pub remarks_text : List Remark → List ℕ
remarks_text remarks = notes_text (map note_of remarks)

-- ---- a turn in its place

-- a frame that was sent is of the grammar
abbrev pub HasFrame : Remark → Type 0
HasFrame (Sent number frame) = FitsFrame frame
HasFrame other = Unit {0}

-- The remark may stand in a transcript.
pub record IsRemark (remark : Remark) : Type 0 where
  pub note : IsNote (note_of remark)
  pub frame : HasFrame remark

-- The turn may stand where the volume is this, or where none is known yet.
pub record IsTurnAt (volume : Option Setup) (t : Turn) : Type 0 where
  pub line : IsLine volume (line_of t.happening)
  pub remarks : All IsRemark t.remarks

-- ---- the volume and the moment of a history

-- the volume behind what happens, where it was this before
abbrev pub volume_then : Happening → Option Setup → Option Setup
volume_then (Opens setup) before = Some setup
volume_then other before = before

-- the moment of what happens, where it was this before
abbrev pub moment_then : Happening → Time → Time
moment_then (Reaches moment) before = moment
moment_then other before = before

-- the volume of a history, where one is opened in it
abbrev pub volume_of : History → Option Setup
volume_of [] = None
volume_of (t ∷ past) = volume_then t.happening (volume_of past)

-- the moment at its end: the last one that was set
abbrev pub moment_of : History → Time
moment_of [] = record { sec = 0; nsec = 0 }
moment_of (t ∷ past) = moment_then t.happening (moment_of past)

-- ---- histories

-- each turn may stand in its place
abbrev pub AreInPlace : History → Type 0
AreInPlace [] = Unit {0}
AreInPlace (t ∷ past) = AreInPlace past × IsTurnAt (volume_of past) t

-- each turn has the moment that is set when it happens
abbrev pub HasRightMoments : History → Type 0
HasRightMoments [] = Unit {0}
HasRightMoments (t ∷ past) = HasRightMoments past × (t.moment ≡ moment_of (t ∷ past))

-- The text is the transcript of this history. Moments don't stand in a transcript, and may be any.
pub record IsTranscriptOf (text : List ℕ) (h : History) : Type 0 where
  pub spelled : text ≡ history_text (transcript_of h)
  pub in_place : AreInPlace h

-- each number of the turn fits the type in which it is kept
pub record FitsTurn (t : Turn) : Type 0 where
  pub line : FitsLine (line_of t.happening)
  pub remarks : All (λ remark. FitsNote (note_of remark)) t.remarks
