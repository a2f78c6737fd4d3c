use Rattle.std.proofs.Common.{◌<◌, ◌≤◌, ◌-◌, ℕ, length, drop, Ok, refl, ap, arith}
use Rattle.std.proofs.lemmas.Result.{err_from_is_err_and}
use Rattle.sl_history.specs.Licensed.{IsLicensedTurn}
use Rattle.sl_ledger.specs.Stops.{StopsIn}
use Rattle.sl_licence.proofs.Saying.{says_false, says_true}
use Rattle.sl_licence.proofs.Turning.{before_all, if_err, not_licensed, passes, stops_there}
use Rattle.sl_licence.proofs.licensed.are_licensed.Goals as goal

one_less : (j n : ℕ) → 0 < j → j ≤ n → j - 1 < n
one_less j n some within = omega (arith, some, within)

same : (n : ℕ) → n ≤ n
same n = omega arith

fewer : (j n : ℕ) → 0 < j → j ≤ n → j - 1 ≤ n
fewer j n some within = omega (arith, some, within)

pub loop-left-init : goal.loop-left-init
loop-left-init c = record {
  within = same (length c.args.history.now);
  passed = λ start is are. before_all start c.args.history.now (length c.args.history.now) c.args.docket.now c.args.crowds.now refl is are;
}

pub returns-in_err-licensed-clause-stopped : goal.returns-in_err-licensed-clause-stopped
returns-in_err-licensed-clause-stopped c = λ start is are.
    let h = c.args.history.now in
    let j = c.loop-left.left in
    let p = err_from_is_err_and c.from_residual.result c.from_residual.ensures.1 in
    let there = c.loop-left.invariant.passed start is are in
    if_err (λ fault. StopsIn fault start h) c.from_residual.result c.in_err-licensed.field-0.0 p.0 p.1 p.2
    (stops_there c.in_err-licensed.field-0.0 start h j (j - 1) c.index-history-left.result refl c.loop-left-test.true (one_less j (length h) c.loop-left-test.true c.loop-left.invariant.within) c.index-history-left.is
    (c.in_err-licensed.ensures.stopped start (drop j h) there.docket there.crowds))

pub returns-then-not-licensed-clause-decides : goal.returns-then-not-licensed-clause-decides
returns-then-not-licensed-clause-decides c = λ start is are.
    let h = c.args.history.now in
    let j = c.loop-left.left in
    let t = c.index-history-left.result in
    let there = c.loop-left.invariant.passed start is are in
    not_licensed start h j (j - 1) t refl c.loop-left-test.true (one_less j (length h) c.loop-left-test.true c.loop-left.invariant.within) c.index-history-left.is
    (says_false c.in_ok-licensed.licensed (IsLicensedTurn start (drop j h) t) c.if-not-licensed.true (c.in_ok-licensed.ensures.decides start (drop j h) there.docket there.crowds))

pub loop-left-preserved : goal.loop-left-preserved
loop-left-preserved c =
    let h = c.args.history.now in
    let j = c.loop-left.left in
    let t = c.index-history-left.result in
    record {
      within = fewer j (length h) c.loop-left-test.true c.loop-left.invariant.within;
      passed = λ start is are.
          let there = c.loop-left.invariant.passed start is are in
          passes start h j (j - 1) t c.loop-left.docket c.is_licensed_turn.new.docket c.loop-left.crowds c.is_licensed_turn.new.crowds refl c.loop-left-test.true
          (one_less j (length h) c.loop-left-test.true c.loop-left.invariant.within) c.index-history-left.is
          there (c.in_ok-licensed.ensures.takes (ap (λ b. Ok b) c.if-not-licensed.false) start (drop j h) there.docket there.crowds)
          (says_true c.in_ok-licensed.licensed (IsLicensedTurn start (drop j h) t) c.if-not-licensed.false (c.in_ok-licensed.ensures.decides start (drop j h) there.docket there.crowds));
    }
