use Rattle.std.proofs.Common.{sym, ap, ◌∙◌}
use Rattle.sl_defs.specs.Histories.{Happening}
use Rattle.sl_history.specs.Wired.{acts, may_send}
use Rattle.sl_wiring.proofs.Docketing.{sends_else}
use Rattle.sl_wiring.proofs.docket.Docket.may_send_at.Goals as goal

pub returns-in_default : goal.returns-in_default
returns-in_default c = λ setup start t past happens is.
    c.is_actor.ensures setup start t past is ∙ ap (λ (x : Happening). acts past x c.args.frame.now.from) happens
    ∙ sym (sends_else past c.args.event.now c.args.frame.now c.in_default.not-Call c.in_default.not-Tick) ∙ sym (ap (λ (x : Happening). may_send past x c.args.frame.now) happens)
