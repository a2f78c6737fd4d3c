-- The claim that a history remembers, as a walk over its turns.
use Rattle.std.specs.Prelude.{List, [], ◌∷◌}
use Rattle.sl_history.specs.Turns.{Remark, Turn, History, so_far}
use Rattle.sl_history.specs.Remembering.{AllMayBeNoted, Remembers, MayNote}
use Rattle.sl_recall.proofs.Walks.{IsClaim, IsWalk}

abbrev pub May : Turn → History → List Remark → Remark → Type 0
May t past before r = MayNote (so_far t before ∷ past) r

abbrev pub At : History → Turn → Type 0
At past t = AllMayBeNoted t past [] t.remarks

pub walk : (t : Turn) (past : History) → IsWalk (May t past) (AllMayBeNoted t past)
walk t past = record {
  nothing = λ before. tt;
  more = λ before r rest may others. (may, others);
  first = λ before r rest all. all.0;
  others = λ before r rest all. all.1;
}

pub claim : IsClaim Remembers At
claim = record {
  begins = tt;
  goes = λ t past before here. (before, here);
  before = λ t past all. all.0;
  here = λ t past all. all.1;
}
