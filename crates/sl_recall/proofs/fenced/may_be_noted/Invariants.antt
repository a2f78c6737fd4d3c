use Rattle.sl_history.specs.Turns.{History, begun}
use Rattle.sl_history.specs.Fenced.{AllMayBeNoted}
use Rattle.sl_ledger.specs.Ledgers.{IsLedgerOf}
use Rattle.sl_recall.proofs.Walks.{Here}
use Rattle.sl_recall.proofs.fenced.may_be_noted.Given as goal

abbrev pub invariant-loop-remark : goal.invariant-loop-remark
invariant-loop-remark l = (past : History) → IsLedgerOf (begun past l.turn.happening l.turn.moment) l.fn.ledger → Here IsLedgerOf (AllMayBeNoted l.turn past) l.turn past l.remark-items l.remark-index l.ledger
