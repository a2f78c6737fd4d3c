-- What holds of the grammar of frames as a whole.
use Rattle.std.specs.Prelude.{◌≡◌, ℕ, List, Some}
use Rattle.sl_frames.specs.declared.frame.Frame.{Frame}
use Rattle.sl_frames.specs.Frames.{IsFrame, frame_of}

-- What spells a frame is read as that frame.
abbrev pub SpellingsAreRead : Type 0
SpellingsAreRead = (frame : Frame) (text : List ℕ) → IsFrame frame text → frame_of text ≡ Some frame

-- No two frames have one text.
abbrev pub TextsAreUnique : Type 0
TextsAreUnique = (frame other : Frame) (text : List ℕ) → IsFrame frame text → IsFrame other text → frame ≡ other
