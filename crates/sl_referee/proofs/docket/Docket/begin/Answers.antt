use Rattle.std.proofs.Common.{true, false, sym, refl, ap, subst, ◌∙◌}
use Rattle.sl_history.specs.Frames.{up_by}
use Rattle.sl_past.specs.Words.{happening_of}
use Rattle.sl_past.specs.declared.happening.Happening.{Happening}
use Rattle.sl_referee.specs.Dockets.{IsDocketOf}
use Rattle.sl_history.specs.Turns.{begun}
use Rattle.sl_referee.proofs.Beginning.{begins_quietly}
use Rattle.sl_referee.proofs.Opening.{event_begins, no_event, on_ok}
use Rattle.sl_referee.proofs.docket.Docket.begin.Goals as goal

pub returns-in-Happens-clause-begins : goal.returns-in-Happens-clause-begins
returns-in-Happens-clause-begins c =
    let d = c.args.self.now in
    on_ok c.begin_event.result (λ now start past is.
    subst (λ (h : Happening). IsDocketOf start (begun past (happening_of h) c.args.moment) c.begin_event.new.self) (sym c.in-Happens.is)
    (event_begins c.in-Happens.event c.args.moment d (record { cases = d.cases; volume = d.volume; ends = d.ends; is_proxy_up = c.is_proxy_up-self.result; is_event = true })
    c.begin_event.new.self start past is refl refl refl
    (c.is_proxy_up-self.ensures ∙ ap (λ (h : Happening). up_by (happening_of h) 0 d.is_proxy_up) c.in-Happens.is) refl now))
    c.begin_event.ensures.begins

pub returns : goal.returns
returns c =
    let d = c.args.self.now in
    record {
      begins = λ start past is.
          begins_quietly start past (happening_of c.args.happening.now) c.args.moment d
          (record { cases = d.cases; volume = d.volume; ends = d.ends; is_proxy_up = c.is_proxy_up-self.result; is_event = false }) is
          (no_event c.args.happening.now c.in_default.not-Happens) refl refl refl c.is_proxy_up-self.ensures refl;
      stopped = tt;
    }
