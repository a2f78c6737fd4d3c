use Rattle.std.proofs.Common.{◌≤◌}
use Rattle.sl_history.specs.Turns.{History}
use Rattle.slice.specs.Replays.{Flowing, Stood}
use Rattle.slice.proofs.perform.flow.Given as goal

abbrev pub invariant-loop-i : goal.invariant-loop-i
invariant-loop-i g l = record {
  so : (past : History) → Stood l.fn.world past → Flowing past l._i l.world (g.K.Sink.holds l.fn.sink) (g.K.Sink.holds l.sink);
  later : g.K.Sink.faults l.fn.sink ≤ g.K.Sink.faults l.sink;
}
