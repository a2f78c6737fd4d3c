use Rattle.std.proofs.Common.{◌≡◌}
use Rattle.sl_plain.proofs.CopyLaws.{overlay}
use Rattle.sl_plain.proofs.written.Written.copy.Given as goal

-- with the entries that are left it is the whole map
abbrev pub invariant-loop-place : goal.invariant-loop-place
invariant-loop-place l = overlay l.place-iterator l.copy ≡ l.self
