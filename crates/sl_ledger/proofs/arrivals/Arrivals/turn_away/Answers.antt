use Rattle.std.proofs.Common.{◌≡◌, ◌∷◌, true, sym, refl, ◌∙◌}
use Rattle.std.proofs.lemmas.Bool.{both_ways}
use Rattle.sl_history.specs.Turns.{events}
use Rattle.sl_ledger.proofs.ArrivalLaws.{arrivals_dropped, arrivals_not_dropped}
use Rattle.sl_ledger.proofs.arrivals.Arrivals.turn_away.Goals as goal
use Rattle.sl_ledger.proofs.arrivals.Arrivals.turn_away.Goals.{else-self-via-then-self+else-arrival-events, else-self-via-else-self}

pub returns-then-arrival-events : goal.returns-then-arrival-events
returns-then-arrival-events c = λ t past r drop is.
    let a = c.args.self.now in
    arrivals_dropped t past c.args.arrival r a (record { datagrams = a.datagrams; is_event = a.is_event; waiting = c.take_out.new.waiting }) drop is c.if-self.true
    (c.if-arrival-events.true ∙ c.events.ensures.newest (t ∷ past) is) refl refl c.take_out.ensures

pub returns-else-self : goal.returns-else-self
returns-else-self c = λ t past r drop is.
    let a = c.args.self.now in
    let other : a.is_event ≡ true → c.args.arrival ≡ events (t ∷ past) → ⊥ = elim c.else-self.branch [
      | else-self-via-then-self+else-arrival-events w ↦ λ event newest. w.if-arrival-events.false (newest ∙ sym (w.events.ensures.newest (t ∷ past) is))
      | else-self-via-else-self w ↦ λ event newest. both_ways a.is_event w.if-self.false event
    ] in
    arrivals_not_dropped t past c.args.arrival r a drop is other
