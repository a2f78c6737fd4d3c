-- Which notes are printed.
use Rattle.std.specs.Prelude.{◌≡◌, List, Bool, true, false, All}
use Rattle.sl_frames.specs.declared.body.Body.{Body}
use Rattle.sl_frames.specs.declared.body.Body.TheVariants as body
use Rattle.sl_history.specs.Turns.{Remark, Sent}

-- a frame's body without lists, so that it has a text whatever it says
abbrev pub is_plain : Body → Bool
is_plain (body.Ask keys) = false
is_plain (body.Found cells) = false
is_plain (body.Listed cells more) = false
is_plain (body.Intent intent) = false
is_plain (body.Lock work) = false
is_plain other = true

-- frames with lists aren't printed yet
abbrev pub has_text : Remark → Bool
has_text (Sent k f) = is_plain f.«body»
has_text other = true

abbrev pub HaveTexts : List Remark → Type 0
HaveTexts remarks = All (λ r. has_text r ≡ true) remarks
