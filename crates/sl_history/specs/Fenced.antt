-- A history is fenced where nothing of an earlier fence takes effect by the coordinator, or is replied, once a later fence's
-- write verifier stands.
use Rattle.std.specs.Prelude.{◌≡◌, ℕ, ◌≤◌, List, [], ◌∷◌, ◌++◌, Option, Some, None, true}
use Rattle.sl_frames.specs.Actors.{is_coordinator}
use Rattle.sl_frames.specs.declared.frame.Frame.{Frame}
use Rattle.sl_history.specs.Turns.{Remark, Did, Flush, Replied, Turn, History, so_far}
use Rattle.sl_history.specs.Frames.{last_verf}
use Rattle.sl_history.specs.Arrivals.{Asked, asked, waiting}
use Rattle.sl_history.specs.Licensed.{reaches, is_in}

-- the fence is that of the last write verifier, or a later one
abbrev pub IsNotBefore : Option ℕ → ℕ → Type 0
IsNotBefore None fence = Unit {0}
IsNotBefore (Some v) fence = v ≤ fence

abbrev pub IsCurrent : History → Option Frame → Type 0
IsCurrent h None = Unit {0}
IsCurrent h (Some f) = is_coordinator f.to ≡ true → IsNotBefore (last_verf h) f.fence

-- a call that is replied still waits: it came since the last write verifier
abbrev pub StillWaits : History → ℕ → Option Asked → Type 0
StillWaits h n None = Unit {0}
StillWaits h n (Some a) = is_in n (waiting h) ≡ true

abbrev pub MayNote : History → Turn → History → Remark → Type 0
MayNote past t h (Did n at choice) = IsCurrent h (reaches past t)
MayNote past t h (Flush f) = IsCurrent h (reaches past t)
MayNote past t h (Replied n e bytes) = StillWaits h n (asked h n)
MayNote past t h other = Unit {0}

abbrev pub AllMayBeNoted : Turn → History → List Remark → List Remark → Type 0
AllMayBeNoted t past before [] = Unit {0}
AllMayBeNoted t past before (r ∷ rs) = MayNote past t (so_far t before ∷ past) r × AllMayBeNoted t past (before ++ r ∷ []) rs

abbrev pub Fenced : History → Type 0
Fenced [] = Unit {0}
Fenced (t ∷ past) = Fenced past × AllMayBeNoted t past [] t.remarks
