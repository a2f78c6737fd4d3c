use Rattle.std.proofs.Common.{◌∷◌, ◌+◌, sym, ap, ◌∙◌}
use Rattle.std.proofs.lemmas.Bool.{true≢false}
use Rattle.sl_model.specs.Volume.{Volume}
use Rattle.sl_history.specs.Turns.{so_far}
use Rattle.sl_history.specs.Wired.{is_quiet, looked_at}
use Rattle.sl_wiring.proofs.Saying.{says_same, says_value}
use Rattle.sl_wiring.proofs.docket.Docket.is_sent.Goals as goal

pub returns-then-not-may_send : goal.returns-then-not-may_send
returns-then-not-may_send c = λ setup start t past before happens is sent.
    true≢false (sym sent.sender ∙ sym (c.may_send.ensures setup start (so_far t before) past happens is) ∙ c.if-not-may_send.true)

pub returns : goal.returns
returns c = λ setup start t past before happens is.
    let h = so_far t before ∷ past in
    let volume = λ (v : Volume). is_quiet v (looked_at c.args.frame.now.body) in
    says_same c.is_quiet.result
    (λ quiet. record {
      number = c.is_next.ensures.0 c.if-not-is_next.false ∙ ap (λ n. n + 1) (c.frames.ensures h is.ledger);
      sender = sym (c.may_send.ensures setup start (so_far t before) past happens is) ∙ c.if-not-may_send.false;
      answer = (c.may_follow.ensures h is.given).0 c.if-not-may_follow.false;
      quiet = ap volume (sym is.volume) ∙ quiet;
    })
    (λ sent. ap volume is.volume ∙ sent.quiet)
    (says_value c.is_quiet.result (is_quiet c.args.self.now.volume (looked_at c.args.frame.now.body)) c.is_quiet.ensures)
