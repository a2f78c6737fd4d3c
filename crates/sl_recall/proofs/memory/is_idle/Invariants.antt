use Rattle.std.proofs.Common.{◌≡◌, drop}
use Rattle.std.specs.List.{list_any}
use Rattle.sl_history.specs.Turns.{History}
use Rattle.sl_history.specs.Arrivals.{asked}
use Rattle.sl_history.specs.Remembering.{changes_by}
use Rattle.sl_ledger.specs.Ledgers.{IsLedgerOf}
use Rattle.sl_recall.proofs.memory.is_idle.Given as goal

-- the calls that are left say as much as all
abbrev pub invariant-loop-arrival : goal.invariant-loop-arrival
invariant-loop-arrival l = (h : History) → IsLedgerOf h l.ledger → list_any (λ m. changes_by (asked h m)) (drop l.arrival-index l.arrival-items) ≡ list_any (λ m. changes_by (asked h m)) l.arrival-items
