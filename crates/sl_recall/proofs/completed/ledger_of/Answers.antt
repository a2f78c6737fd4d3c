use Rattle.std.proofs.Common.{◌≡◌, ℕ, drop, subst, arith}
use Rattle.sl_ledger.specs.Ledgers.{IsLedgerOf}
use Rattle.sl_recall.proofs.completed.ledger_of.Goals as goal

pub returns : goal.returns
returns c =
    let none : c.loop-left.left ≡ 0 = omega (arith, c.loop-left-test.false) in
    subst (λ (k : ℕ). IsLedgerOf (drop k c.args.history.now) c.loop-left.ledger) none c.loop-left.invariant.1
