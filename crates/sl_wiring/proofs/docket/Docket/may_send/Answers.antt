use Rattle.std.proofs.Common.{sym, ap, ◌∙◌}
use Rattle.sl_defs.specs.Histories.{Happening}
use Rattle.sl_past.specs.Words.{happening_of}
use Rattle.sl_history.specs.Wired.{acts, may_send}
use Rattle.sl_wiring.proofs.docket.Docket.may_send.Goals as goal

pub returns-in-Reaches : goal.returns-in-Reaches
returns-in-Reaches c = λ setup start t past happens is.
    let reaches = happens ∙ ap happening_of c.in-Reaches.is in
    c.is_actor.ensures setup start t past is ∙ ap (λ (x : Happening). acts past x c.args.frame.now.from) reaches ∙ sym (ap (λ (x : Happening). may_send past x c.args.frame.now) reaches)
