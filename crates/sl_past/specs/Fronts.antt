-- What may stand at the front of a text that is being read.
use Rattle.std.specs.Prelude.{◌≡◌, ℕ, ◌^◌, ◌<◌, List, ◌++◌, false, Option, All}
use Rattle.sl_defs.specs.Items.{AreBytes}
use Rattle.sl_defs.specs.Histories.{Happening, Opens, turn_text}
use Rattle.sl_defs.specs.Schedules.{FitsSetup}
use Rattle.sl_defs.specs.Transcripts.{FitsNote}
use Rattle.sl_defs.specs.declared.note.Printed.{Printed}
use Rattle.sl_defs.specs.declared.note.Printed.TheVariants as printed
use Rattle.sl_defs.specs.declared.setup.Setup.{Setup}
use Rattle.sl_frames.specs.declared.frame.Frame.{Frame}
use Rattle.sl_frames.specs.Frames.{IsFrame}
use Rattle.sl_history.specs.Turns.{Remark, Turn, note_of, printed_turn}
use Rattle.sl_past.specs.Transcripts.{FitsTurn, IsRemark, IsTurnAt, begins_note, remarks_text}

-- a frame was sent whose bytes spell none
abbrev pub HasNoFrame : Printed → Type 0
HasNoFrame (printed.Sent number bytes) = (number < 2 ^ 64) × AreBytes bytes × ((frame : Frame) → IsFrame frame bytes → ⊥)
HasNoFrame other = ⊥

-- the numbers of a volume that is opened fit their types
abbrev pub FitsOpening : Happening → Type 0
FitsOpening (Opens setup) = FitsSetup setup
FitsOpening other = Unit {0}

-- The notes of these remarks stand at the front of the text, and then this rest, which begins with no note.
pub record BeginsWithRemarks (text : List ℕ) (remarks : List Remark) (rest : List ℕ) : Type 0 where
  pub fit : All (λ remark. FitsNote (note_of remark)) remarks
  pub are : All IsRemark remarks
  pub spelled : text ≡ remarks_text remarks ++ rest
  pub last : begins_note rest ≡ false

-- The same of a turn, where the volume is this or isn't known yet.
pub record BeginsWithTurn (volume : Option Setup) (text : List ℕ) (t : Turn) (rest : List ℕ) : Type 0 where
  pub fits : FitsTurn t
  pub is : IsTurnAt volume t
  pub spelled : text ≡ turn_text (printed_turn t) ++ rest
  pub last : begins_note rest ≡ false
