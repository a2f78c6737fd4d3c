use Rattle.std.proofs.Common.{◌≡◌, drop}
use Rattle.std.specs.Prelude.{map}
use Rattle.sl_model.specs.Volume.{after_writes}
use Rattle.sl_plain.specs.Unstables.{write_of}
use Rattle.sl_plain.proofs.unstable.UnstableWrites.after.Given as goal

-- after what is left, the node is as after all
abbrev pub invariant-loop-write : goal.invariant-loop-write
invariant-loop-write l = after_writes (map write_of (drop l.write-index l.write-items)) l.seen ≡ after_writes (map write_of l.write-items) l.initial.seen
