use Rattle.std.proofs.Common.{◌≡◌, drop}
use Rattle.std.specs.Prelude.{map, ◌↔◌}
use Rattle.sl_history.specs.Licensed.{dropping}
use Rattle.sl_past.specs.Words.{remark_of}
use Rattle.sl_licence.specs.Drops.{notes_of}
use Rattle.sl_licence.proofs.drops.drop_exactly.Given as goal

-- the notes drop what is due where those that are left drop what is left
abbrev pub invariant-loop-remark : goal.invariant-loop-remark
invariant-loop-remark l = (dropping (map remark_of (drop l.remark-index l.remarks)) ≡ notes_of l.left) ↔ (dropping (map remark_of l.remarks) ≡ notes_of l.fn.due)
