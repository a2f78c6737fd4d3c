use Rattle.std.proofs.Common.{◌≡◌, ◌-◌, List, length, true, sym, refl, ap, subst, ◌∙◌}
use Rattle.std.proofs.lemmas.Bool.{both_ways}
use Rattle.std.specs.Prelude.{Option}
use Rattle.std.specs.List.{slice_get}
use Rattle.std.specs.Vec.{with_items}
use Rattle.sl_referee.specs.declared.case.Case.{Case}
use Rattle.sl_referee.specs.Cases.{IsIdle}
use Rattle.sl_referee.specs.Dockets.{with_drop}
use Rattle.sl_referee.proofs.Taking.{new_drop, old_drop, set_in}
use Rattle.sl_referee.proofs.docket.Docket.note_drop.Goals as goal
use Rattle.sl_referee.proofs.docket.Docket.note_drop.Goals.{else-self-via-then-self+else-arrival-newest, else-self-via-else-self}

pub returns-then-arrival-newest : goal.returns-then-arrival-newest
returns-then-arrival-newest c =
    let d = c.args.self.now in
    let found = c.case_at.ensures ∙ ap (λ (cs : List Case). slice_get cs c.args.arrival) c.as_slice.ensures.value in
    let idle = subst (λ (o : Option Case). IsIdle o) found (c.is_idle.ensures.0 c.if-not-is_idle.false) in
    record {
      notes = new_drop d (record { cases = with_items d.cases c.set_dropped.new.cases; volume = d.volume; ends = d.ends; is_proxy_up = d.is_proxy_up; is_event = d.is_event })
          c.args.arrival idle c.if-self.true (c.if-arrival-newest.true ∙ c.newest.ensures)
          (set_in d c.deref_mut.result.now c.set_dropped.new.cases c.args.arrival with_drop c.deref_mut.ensures.value c.set_dropped.ensures)
          refl refl refl refl;
    }

pub returns-else-self : goal.returns-else-self
returns-else-self c =
    let d = c.args.self.now in
    let found = c.case_at.ensures ∙ ap (λ (cs : List Case). slice_get cs c.args.arrival) c.as_slice.ensures.value in
    let idle = subst (λ (o : Option Case). IsIdle o) found (c.is_idle.ensures.0 c.if-not-is_idle.false) in
    let other : d.is_event ≡ true → c.args.arrival ≡ length d.cases.items - 1 → ⊥ = elim c.else-self.branch [
      | else-self-via-then-self+else-arrival-newest w ↦ λ event newest. w.if-arrival-newest.false (newest ∙ sym w.newest.ensures)
      | else-self-via-else-self w ↦ λ event newest. both_ways d.is_event w.if-self.false event
    ] in
    record { notes = old_drop d c.args.arrival idle other }
