use Rattle.std.proofs.Common.{[], ◌+◌, ◌≤◌, length}
use Rattle.sl_history.specs.Remembering.{Remembers}
use Rattle.sl_recall.specs.Memories.{IsMemoryOf}
use Rattle.sl_recall.proofs.Walks.{Passed}
use Rattle.sl_recall.proofs.remembering.are_remembering.Given as goal

-- the turns from the one on that was looked at last may stand there, and brought no more datagrams than they are
abbrev pub invariant-loop-left : goal.invariant-loop-left
invariant-loop-left l = (l.memory.tellings.datagrams + l.left ≤ length l.history) × (IsMemoryOf [] l.fn.memory → Passed IsMemoryOf Remembers l.history l.left l.memory)

abbrev pub decreases-loop-left : goal.decreases-loop-left
decreases-loop-left l = l.left
