use Rattle.std.proofs.Common.{◌≡◌, ◌+◌, ◌-◌, ◌++◌}
use Rattle.sl_model.specs.Volume.{bytes_from}
use Rattle.sl_plain.proofs.volume.Volume.bytes.Given as goal

-- with those that are left they are all
abbrev pub invariant-loop-i : goal.invariant-loop-i
invariant-loop-i l = l.bytes.items ++ bytes_from l.self l.file (l.offset + l.i) (l.count - l.i) ≡ bytes_from l.self l.file l.offset l.count
