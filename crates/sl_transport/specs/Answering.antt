-- Frames that answer others.
use Rattle.std.specs.Prelude.{◌≡◌, List, [], ◌∷◌, ◌++◌, Bool, true, false, ◌&&◌, ◌||◌}
use Rattle.sl_frames.specs.Actors.{is_directory}
use Rattle.sl_frames.specs.declared.frame.Frame.{Frame}
use Rattle.sl_frames.specs.declared.body.Body.{Body}
use Rattle.sl_frames.specs.declared.body.Body.TheVariants as body
use Rattle.sl_history.specs.Turns.{Remark, Sent, Turn, History, so_far}
use Rattle.sl_history.specs.Wired.{is_answer, IsAnswer}

-- replies and fileids are what directory servers record of their answers, and decisions what the coordinator does
abbrev pub is_recorded : Body → Bool
is_recorded (body.Packet packet) = true
is_recorded (body.Minted fileid) = true
is_recorded other = false

abbrev pub is_decision : Body → Bool
is_decision (body.Decided agreed) = true
is_decision other = false

-- the answer may have stood in its sender's records before the volume was opened
abbrev pub may_be_older : Frame → Bool
may_be_older f = (is_directory f.from && is_recorded f.body) || is_decision f.body

-- an answer is to a frame that was given to its sender
abbrev pub IsAnswered : History → Remark → Type 0
IsAnswered h (Sent k f) = is_answer f.body ≡ true → may_be_older f ≡ false → IsAnswer h f
IsAnswered h other = Unit {0}

abbrev pub AllAnswered : Turn → History → List Remark → List Remark → Type 0
AllAnswered t past before [] = Unit {0}
AllAnswered t past before (r ∷ rs) = IsAnswered (so_far t before ∷ past) r × AllAnswered t past (before ++ r ∷ []) rs

-- Actors answer only what was given to them, by its fence and tag and operation, whatever their disks had before; but for
-- the replies and fileids of directory servers and the coordinator's decisions.
abbrev pub AnswersAnswer : History → Type 0
AnswersAnswer [] = Unit {0}
AnswersAnswer (t ∷ past) = AnswersAnswer past × AllAnswered t past [] t.remarks
