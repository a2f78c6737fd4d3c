use Rattle.std.proofs.Common.{◌≡◌, drop}
use Rattle.std.specs.Prelude.{map}
use Rattle.sl_model.specs.Volume.{byte_after}
use Rattle.sl_plain.specs.Unstables.{write_of}
use Rattle.sl_plain.proofs.unstable.UnstableWrites.byte_after.Given as goal

-- after what is left, the byte is as after all
abbrev pub invariant-loop-write : goal.invariant-loop-write
invariant-loop-write l = byte_after l.file l.offset (map write_of (drop l.write-index l.write-items)) l.byte ≡ byte_after l.file l.offset (map write_of l.write-items) l.initial.byte
