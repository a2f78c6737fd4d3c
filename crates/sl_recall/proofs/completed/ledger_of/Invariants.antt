use Rattle.std.proofs.Common.{drop, ◌≤◌, length}
use Rattle.sl_ledger.specs.Ledgers.{IsLedgerOf}
use Rattle.sl_recall.proofs.completed.ledger_of.Given as goal

-- the ledger is that of the turns from the one on that was taken last
abbrev pub invariant-loop-left : goal.invariant-loop-left
invariant-loop-left l = (l.left ≤ length l.history) × IsLedgerOf (drop l.left l.history) l.ledger

abbrev pub decreases-loop-left : goal.decreases-loop-left
decreases-loop-left l = l.left
