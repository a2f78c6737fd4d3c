use Rattle.std.proofs.Common.{◌≡◌, ℕ, List, ◌++◌, length, map}
use Rattle.std.specs.Prelude.{All}
use Rattle.sl_history.specs.Turns as turns
use Rattle.sl_past.specs.Fronts.{BeginsWithRemarks}
use Rattle.sl_past.specs.Transcripts.{IsRemark, remarks_text}
use Rattle.sl_past.specs.Words.{remark_of}
use Rattle.sl_past.proofs.notes.read_remarks.Given as goal

abbrev pub invariant-loop-alloc : goal.invariant-loop-alloc
invariant-loop-alloc l = record {
  spelled : l.text ≡ remarks_text (map remark_of l.remarks.items) ++ l.rest;
  are : All IsRemark (map remark_of l.remarks.items);
  others : (remarks : List turns.Remark) (rest : List ℕ) → BeginsWithRemarks l.text remarks rest → (left : List turns.Remark) × BeginsWithRemarks l.rest left rest;
}

abbrev pub decreases-loop-alloc : goal.decreases-loop-alloc
decreases-loop-alloc l = length l.rest
