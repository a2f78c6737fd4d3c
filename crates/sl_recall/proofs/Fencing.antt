-- The claim that a history is fenced, as a walk over its turns.
use Rattle.std.proofs.Common.{◌≡◌, List, [], ◌∷◌, Option, Some, None, refl, sym, subst}
use Rattle.sl_frames.specs.declared.frame.Frame.{Frame}
use Rattle.sl_history.specs.Turns.{Remark, Sent, Did, Flush, Verf, Replied, Junk, Early, Full, Lost, Down, Turn, History, so_far}
use Rattle.sl_history.specs.Frames.{given_by}
use Rattle.sl_history.specs.Licensed.{given_up, reaches}
use Rattle.sl_history.specs.Fenced.{AllMayBeNoted, Fenced, IsCurrent, MayNote}
use Rattle.sl_recall.proofs.Walks.{IsClaim, IsWalk}

abbrev pub May : Turn → History → List Remark → Remark → Type 0
May t past before r = MayNote past t (so_far t before ∷ past) r

abbrev pub At : History → Turn → Type 0
At past t = AllMayBeNoted t past [] t.remarks

pub walk : (t : Turn) (past : History) → IsWalk (May t past) (AllMayBeNoted t past)
walk t past = record {
  nothing = λ before. tt;
  more = λ before r rest may others. (may, others);
  first = λ before r rest all. all.0;
  others = λ before r rest all. all.1;
}

pub claim : IsClaim Fenced At
claim = record {
  begins = tt;
  goes = λ t past before here. (before, here);
  before = λ t past all. all.0;
  here = λ t past all. all.1;
}

-- which frame a turn gives doesn't rest on its notes
given_same : (past : History) (t u : Turn) (o : Option Frame) → given_up past t o ≡ given_up past u o
given_same past t u None = refl
given_same past t u (Some f) = refl

reaches_same : (past : History) (t : Turn) (before : List Remark) → reaches past (so_far t before) ≡ reaches past t
reaches_same past t before = given_same past (so_far t before) t (given_by past t)

pub as_turn : (past : History) (t : Turn) (before : List Remark) (h : History) (r : Remark) → MayNote past (so_far t before) h r → MayNote past t h r
as_turn past t before h (Did n at choice) may = subst (IsCurrent h) (reaches_same past t before) may
as_turn past t before h (Flush f) may = subst (IsCurrent h) (reaches_same past t before) may
as_turn past t before h (Replied n e bytes) may = may
as_turn past t before h (Sent k f) may = may
as_turn past t before h (Verf v) may = may
as_turn past t before h (Junk n) may = may
as_turn past t before h (Early n) may = may
as_turn past t before h (Full n) may = may
as_turn past t before h (Lost n) may = may
as_turn past t before h (Down a) may = may

pub so_far_as : (past : History) (t : Turn) (before : List Remark) (h : History) (r : Remark) → MayNote past t h r → MayNote past (so_far t before) h r
so_far_as past t before h (Did n at choice) may = subst (IsCurrent h) (sym (reaches_same past t before)) may
so_far_as past t before h (Flush f) may = subst (IsCurrent h) (sym (reaches_same past t before)) may
so_far_as past t before h (Replied n e bytes) may = may
so_far_as past t before h (Sent k f) may = may
so_far_as past t before h (Verf v) may = may
so_far_as past t before h (Junk n) may = may
so_far_as past t before h (Early n) may = may
so_far_as past t before h (Full n) may = may
so_far_as past t before h (Lost n) may = may
so_far_as past t before h (Down a) may = may
