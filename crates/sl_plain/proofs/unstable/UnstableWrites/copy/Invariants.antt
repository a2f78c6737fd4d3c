use Rattle.std.proofs.Common.{◌≡◌, ◌++◌, drop}
use Rattle.std.specs.Prelude.{map}
use Rattle.sl_plain.specs.Unstables.{write_of}
use Rattle.sl_plain.proofs.unstable.UnstableWrites.copy.Given as goal

-- with the writes that are left they are all
abbrev pub invariant-loop-write : goal.invariant-loop-write
invariant-loop-write l = l.copy ++ map write_of (drop l.write-index l.write-items) ≡ l.self
