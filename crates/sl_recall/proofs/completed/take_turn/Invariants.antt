use Rattle.std.proofs.Common.{take, ◌∷◌}
use Rattle.std.specs.Prelude.{map}
use Rattle.sl_past.specs.Words.{remark_of}
use Rattle.sl_history.specs.Turns.{History, so_far}
use Rattle.sl_ledger.specs.Ledgers.{IsLedgerOf}
use Rattle.sl_recall.proofs.completed.take_turn.Given as goal

-- the ledger is that of the turn with the remarks so far
abbrev pub invariant-loop-remark : goal.invariant-loop-remark
invariant-loop-remark l = (past : History) → IsLedgerOf past l.fn.ledger → IsLedgerOf (so_far l.turn (map remark_of (take l.remark-index l.remark-items)) ∷ past) l.ledger
