use Rattle.std.proofs.Common.{◌≡◌, ◌∷◌, [], List, Ok, ap, sym, subst, ◌∙◌}
use Rattle.std.proofs.lemmas.Result.{err_from_is_err_and}
use Rattle.std.specs.Prelude.{Result, Bool}
use Rattle.sl_defs.specs.Histories.{Happening}
use Rattle.sl_defs.specs.declared.setup.Setup.{Setup}
use Rattle.sl_defs.specs.declared.setup.Time.{Time}
use Rattle.sl_model.specs.Volume.{Volume}
use Rattle.sl_history.specs.Turns.{History, Remark, begun}
use Rattle.sl_history.specs.Frames.{named_number}
use Rattle.sl_history.specs.Volumes.{volume_after}
use Rattle.sl_history.specs.Deciding.{Says}
use Rattle.sl_history.specs.Wired.{AllMayBeNoted, AreTrue, IsFlying, IsWiredTurn}
use Rattle.sl_past.specs.Words.{happening_of}
use Rattle.sl_ledger.specs.Stops.{StopsIn}
use Rattle.sl_ledger.specs.declared.fault.AuditFault.{AuditFault}
use Rattle.sl_wiring.specs.Dockets.{IsDocketOf}
use Rattle.sl_wiring.proofs.Saying.{says_audit, says_false, says_same, says_true, went_well}
use Rattle.sl_wiring.proofs.TurnLaws.{if_err, stops_in_turn}
use Rattle.sl_wiring.proofs.wired.is_wired_turn.Goals as goal

pub returns-in_err-may-clause-stopped : goal.returns-in_err-may-clause-stopped
returns-in_err-may-clause-stopped c = λ setup start past is.
    let t = c.args.turn.now in
    let p = err_from_is_err_and c.from_residual.result c.from_residual.ensures.1 in
    let begins = went_well c.begin.result
    ((setup : Setup) (start : Volume) (past : History) (moment : Time) → IsDocketOf setup start past c.args.docket.now → IsDocketOf setup start (begun past (happening_of c.happening-2.result.now) moment) c.begin.new.self)
    (sym c.is_err.ensures.value ∙ c.if-is_err.false) c.begin.ensures in
    if_err (λ fault. StopsIn fault start (t ∷ past)) c.from_residual.result c.in_err-may.field-0.0 p.0 p.1 p.2
    (stops_in_turn c.in_err-may.field-0.0 start t past (c.in_err-may.ensures.stopped setup start past
    (subst (λ (x : Happening). IsDocketOf setup start (begun past x t.moment) c.begin.new.self) c.happening-2.ensures (begins setup start past t.moment is))))

pub returns-then-not-may-clause-decides : goal.returns-then-not-may-clause-decides
returns-then-not-may-clause-decides c = λ setup start past is wired.
    let t = c.args.turn.now in
    let begins = went_well c.begin.result
    ((setup : Setup) (start : Volume) (past : History) (moment : Time) → IsDocketOf setup start past c.args.docket.now → IsDocketOf setup start (begun past (happening_of c.happening-2.result.now) moment) c.begin.new.self)
    (sym c.is_err.ensures.value ∙ c.if-is_err.false) c.begin.ensures in
    says_false AuditFault c.in_ok-may.may (AllMayBeNoted setup start t past [] t.remarks) c.if-not-may.true
    (c.in_ok-may.ensures.decides setup start past
    (subst (λ (x : Happening). IsDocketOf setup start (begun past x t.moment) c.begin.new.self) c.happening-2.ensures (begins setup start past t.moment is))) wired.may

pub returns-clause-decides : goal.returns-clause-decides
returns-clause-decides c = λ setup start past is.
    let t = c.args.turn.now in
    let begins = went_well c.begin.result
    ((setup : Setup) (start : Volume) (past : History) (moment : Time) → IsDocketOf setup start past c.args.docket.now → IsDocketOf setup start (begun past (happening_of c.happening-2.result.now) moment) c.begin.new.self)
    (sym c.is_err.ensures.value ∙ c.if-is_err.false) c.begin.ensures in
    let begin_is = subst (λ (x : Happening). IsDocketOf setup start (begun past x t.moment) c.begin.new.self) c.happening-2.ensures (begins setup start past t.moment is) in
    let may : AllMayBeNoted setup start t past [] t.remarks = says_true AuditFault c.in_ok-may.may (AllMayBeNoted setup start t past [] t.remarks) c.if-not-may.false (c.in_ok-may.ensures.decides setup start past begin_is) in
    let flying : IsFlying past (named_number t.happening) =
    subst (λ (x : Happening). IsFlying past (named_number x)) c.happening.ensures ((c.is_flying.ensures past is.ledger).0 c.if-not-is_flying.false) in
    let told = subst (λ (rs : List Remark). Says c.are_true.result (AreTrue setup (volume_after start (t ∷ past)) (t ∷ past) rs)) c.remarks.ensures
    (c.are_true.ensures setup start (t ∷ past) (c.in_ok-may.ensures.takes (ap (λ b. Ok b) c.if-not-may.false) setup start past begin_is)) in
    subst (λ (q : Result Bool AuditFault). Says q (IsWiredTurn setup start past t)) (sym c.audited.ensures)
    (says_audit (IsWiredTurn setup start past t) c.are_true.result
    (says_same c.are_true.result (λ true_. record { flying = flying; may = may; told = true_ }) (λ wired. wired.told) told))

pub returns-clause-takes : goal.returns-clause-takes
returns-clause-takes c = λ made setup start past is.
    let t = c.args.turn.now in
    let begins = went_well c.begin.result
    ((setup : Setup) (start : Volume) (past : History) (moment : Time) → IsDocketOf setup start past c.args.docket.now → IsDocketOf setup start (begun past (happening_of c.happening-2.result.now) moment) c.begin.new.self)
    (sym c.is_err.ensures.value ∙ c.if-is_err.false) c.begin.ensures in
    c.in_ok-may.ensures.takes (ap (λ b. Ok b) c.if-not-may.false) setup start past
    (subst (λ (x : Happening). IsDocketOf setup start (begun past x t.moment) c.begin.new.self) c.happening-2.ensures (begins setup start past t.moment is))
