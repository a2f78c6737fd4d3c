use Rattle.std.proofs.Common.{drop}
use Rattle.sl_history.specs.Turns.{History}
use Rattle.sl_ledger.specs.Ledgers.{IsLedgerOf}
use Rattle.sl_wiring.proofs.ToldLaws.{TrueLeft}
use Rattle.sl_wiring.proofs.docket.Docket.are_true.Given as goal

abbrev pub invariant-loop-remark : goal.invariant-loop-remark
invariant-loop-remark l = (h : History) → IsLedgerOf h l.self.ledger → TrueLeft l.self.setup l.self.volume h (drop l.remark-index l.remarks) l.remarks
