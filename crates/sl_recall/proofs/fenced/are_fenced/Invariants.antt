use Rattle.std.proofs.Common.{[], ◌≤◌, length}
use Rattle.sl_history.specs.Fenced.{Fenced}
use Rattle.sl_ledger.specs.Ledgers.{IsLedgerOf}
use Rattle.sl_recall.proofs.Walks.{Passed}
use Rattle.sl_recall.proofs.fenced.are_fenced.Given as goal

-- the turns from the one on that was looked at last may stand there
abbrev pub invariant-loop-left : goal.invariant-loop-left
invariant-loop-left l = (l.left ≤ length l.history) × (IsLedgerOf [] l.fn.ledger → Passed IsLedgerOf Fenced l.history l.left l.ledger)

abbrev pub decreases-loop-left : goal.decreases-loop-left
decreases-loop-left l = l.left
