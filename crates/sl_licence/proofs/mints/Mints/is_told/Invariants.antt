use Rattle.std.proofs.Common.{take}
use Rattle.sl_history.specs.Turns.{History}
use Rattle.sl_ledger.specs.Ledgers.{IsLedgerOf}
use Rattle.sl_licence.proofs.Numbers.{NoneRefused}
use Rattle.sl_licence.proofs.mints.Mints.is_told.Given as goal

abbrev pub invariant-loop-number : goal.invariant-loop-number
invariant-loop-number l = (h : History) → IsLedgerOf h l.ledger → NoneRefused h l.self l.arrival (take l.number-index l.number-items)
