use Rattle.std.proofs.Common.{◌≡◌, ℕ, take, Some}
use Rattle.std.specs.Prelude.{◌==◌, ◌&&◌, if◌then◌else◌}
use Rattle.sl_history.specs.Licensed.{is_in}
use Rattle.sl_recall.specs.Telling.{told_at}
use Rattle.sl_recall.proofs.tellings.put_all.Given as goal

-- the files so far are put
abbrev pub invariant-loop-file : goal.invariant-loop-file
invariant-loop-file l = (f e : ℕ) → told_at l.told f e ≡ (if (e == l.event) && is_in f (take l.file-index l.files) then Some l.datagrams else told_at l.initial.told f e)
