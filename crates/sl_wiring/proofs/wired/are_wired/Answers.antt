use Rattle.std.proofs.Common.{◌<◌, ◌≤◌, ◌-◌, ℕ, length, drop, Ok, refl, ap, arith}
use Rattle.std.proofs.lemmas.Result.{err_from_is_err_and}
use Rattle.sl_history.specs.Wired.{IsWiredTurn}
use Rattle.sl_ledger.specs.Stops.{StopsIn}
use Rattle.sl_ledger.specs.declared.fault.AuditFault.{AuditFault}
use Rattle.sl_wiring.proofs.Saying.{says_false, says_true}
use Rattle.sl_wiring.proofs.TurnLaws.{all_passed, before_all, if_err, not_wired, passes, stops_there}
use Rattle.sl_wiring.proofs.wired.are_wired.Goals as goal

one_less : (j n : ℕ) → 0 < j → j ≤ n → j - 1 < n
one_less j n some within = omega (arith, some, within)

same : (n : ℕ) → n ≤ n
same n = omega arith

fewer : (j n : ℕ) → 0 < j → j ≤ n → j - 1 ≤ n
fewer j n some within = omega (arith, some, within)

pub loop-left-init : goal.loop-left-init
loop-left-init c = record {
  within = same (length c.args.history.now);
  passed = λ setup start is. before_all setup start c.args.history.now (length c.args.history.now) c.args.docket.now refl is;
}

pub returns-in_err-wired-clause-stopped : goal.returns-in_err-wired-clause-stopped
returns-in_err-wired-clause-stopped c = λ setup start is.
    let h = c.args.history.now in
    let j = c.loop-left.left in
    let p = err_from_is_err_and c.from_residual.result c.from_residual.ensures.1 in
    let there = c.loop-left.invariant.passed setup start is in
    if_err (λ fault. StopsIn fault start h) c.from_residual.result c.in_err-wired.field-0.0 p.0 p.1 p.2
    (stops_there c.in_err-wired.field-0.0 start h j (j - 1) c.index-history-left.result refl c.loop-left-test.true (one_less j (length h) c.loop-left-test.true c.loop-left.invariant.within) c.index-history-left.is
    (c.in_err-wired.ensures.stopped setup start (drop j h) there.docket))

pub returns-then-not-wired-clause-decides : goal.returns-then-not-wired-clause-decides
returns-then-not-wired-clause-decides c = λ setup start is.
    let h = c.args.history.now in
    let j = c.loop-left.left in
    let t = c.index-history-left.result in
    let there = c.loop-left.invariant.passed setup start is in
    not_wired setup start h j (j - 1) t refl c.loop-left-test.true (one_less j (length h) c.loop-left-test.true c.loop-left.invariant.within) c.index-history-left.is
    (says_false AuditFault c.in_ok-wired.wired (IsWiredTurn setup start (drop j h) t) c.if-not-wired.true (c.in_ok-wired.ensures.decides setup start (drop j h) there.docket))

pub loop-left-preserved : goal.loop-left-preserved
loop-left-preserved c =
    let h = c.args.history.now in
    let j = c.loop-left.left in
    let t = c.index-history-left.result in
    record {
      within = fewer j (length h) c.loop-left-test.true c.loop-left.invariant.within;
      passed = λ setup start is.
          let there = c.loop-left.invariant.passed setup start is in
          passes setup start h j (j - 1) t c.loop-left.docket c.is_wired_turn.new.docket refl c.loop-left-test.true (one_less j (length h) c.loop-left-test.true c.loop-left.invariant.within) c.index-history-left.is
          there (c.in_ok-wired.ensures.takes (ap (λ b. Ok b) c.if-not-wired.false) setup start (drop j h) there.docket)
          (says_true AuditFault c.in_ok-wired.wired (IsWiredTurn setup start (drop j h) t) c.if-not-wired.false (c.in_ok-wired.ensures.decides setup start (drop j h) there.docket));
    }

pub returns-clause-decides : goal.returns-clause-decides
returns-clause-decides c = λ setup start is. all_passed setup start c.args.history.now c.loop-left.left c.loop-left.docket c.loop-left-test.false (c.loop-left.invariant.passed setup start is)
