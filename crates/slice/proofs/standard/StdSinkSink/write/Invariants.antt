use Rattle.std.proofs.Common.{◌≡◌, ℕ, List, ◌++◌, length}
use Rattle.std.specs.Io.KnownBytes.{Appends}
use Rattle.slice.proofs.standard.StdSinkSink.write.Given as goal

abbrev pub invariant-loop-rest : goal.invariant-loop-rest
invariant-loop-rest g l = record {
  sofar : (front : List ℕ) × (l.bytes ≡ front ++ l.rest) × Appends (g.W.Write.contents l.fn.self.writer) (g.W.Write.contents l.self.writer) front;
  same : l.self.faults ≡ l.fn.self.faults;
}

abbrev pub decreases-loop-rest : goal.decreases-loop-rest
decreases-loop-rest g l = length l.rest
