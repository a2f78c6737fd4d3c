use Rattle.std.proofs.Common.{◌≡◌, ◌+◌, drop}
use Rattle.sl_model.specs.Volume.{put_bytes}
use Rattle.sl_plain.proofs.written.Written.put_all.Given as goal

-- what is left puts the rest
abbrev pub invariant-loop-i : goal.invariant-loop-i
invariant-loop-i l = put_bytes l.file (l.offset + l.i) (drop l.i l.bytes) l.self ≡ put_bytes l.file l.offset l.bytes l.initial.self
