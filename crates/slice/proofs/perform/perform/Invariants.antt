use Rattle.std.proofs.Common.{◌+◌, ◌≤◌}
use Rattle.slice.specs.Schedule.{lines_left}
use Rattle.slice.specs.Replays.{Sofar}
use Rattle.slice.proofs.Steps.{size_left}
use Rattle.slice.proofs.perform.perform.Given as goal

abbrev pub invariant-loop-rest : goal.invariant-loop-rest
invariant-loop-rest g l = record {
  so : Sofar l.source l.world (lines_left l.rest) l.line (g.K.Sink.holds l.fn.sink) (g.K.Sink.holds l.sink);
  small : l.line + size_left l.rest ≤ 67108867;
  later : g.K.Sink.faults l.fn.sink ≤ g.K.Sink.faults l.sink;
}

abbrev pub decreases-loop-rest : goal.decreases-loop-rest
decreases-loop-rest g l = size_left l.rest
