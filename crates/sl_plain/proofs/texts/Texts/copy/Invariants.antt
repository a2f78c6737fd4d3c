use Rattle.std.proofs.Common.{◌≡◌}
use Rattle.sl_plain.proofs.CopyLaws.{overlay}
use Rattle.sl_plain.proofs.texts.Texts.copy.Given as goal

-- with the entries that are left it is the whole map
abbrev pub invariant-loop-fileid : goal.invariant-loop-fileid
invariant-loop-fileid l = overlay l.fileid-iterator l.copy ≡ l.self
