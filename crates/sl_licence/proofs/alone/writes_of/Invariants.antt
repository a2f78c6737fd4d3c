use Rattle.std.proofs.Common.{◌≡◌, ◌+◌, ◌≤◌, drop}
use Rattle.std.specs.Prelude.{map}
use Rattle.sl_history.specs.Licensed.{writes_of}
use Rattle.sl_plain.specs.Unstables.{write_of}
use Rattle.sl_licence.proofs.alone.writes_of.Given as goal

-- the writes so far that are of the file, and those that are left
abbrev pub invariant-loop-write : goal.invariant-loop-write
invariant-loop-write l = record {
  few : l.count ≤ l.write-index;
  counted : l.count + writes_of l.file (map write_of (drop l.write-index l.writes)) ≡ writes_of l.file (map write_of l.writes);
}
