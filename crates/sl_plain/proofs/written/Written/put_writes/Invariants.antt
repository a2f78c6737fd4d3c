use Rattle.std.proofs.Common.{◌≡◌, drop}
use Rattle.std.specs.Prelude.{map}
use Rattle.sl_model.specs.Volume.{put_writes}
use Rattle.sl_plain.specs.Unstables.{write_of}
use Rattle.sl_plain.proofs.written.Written.put_writes.Given as goal

-- what is left puts the rest
abbrev pub invariant-loop-write : goal.invariant-loop-write
invariant-loop-write l = put_writes l.file (map write_of (drop l.write-index l.writes)) l.self ≡ put_writes l.file (map write_of l.writes) l.initial.self
