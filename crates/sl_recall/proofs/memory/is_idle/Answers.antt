use Rattle.std.proofs.Common.{not, sym, ap, refl, ◌∙◌}
use Rattle.std.specs.List.{list_any}
use Rattle.sl_history.specs.Arrivals.{asked}
use Rattle.sl_history.specs.Remembering.{changes_by}
use Rattle.sl_recall.proofs.AnyLaws.{any_end, any_here}
use Rattle.sl_recall.proofs.TellLaws.{idle_is}
use Rattle.sl_recall.proofs.memory.is_idle.Goals as goal

pub returns-then-is_change : goal.returns-then-is_change
returns-then-is_change c = λ h n is less.
    sym (idle_is h n less ∙ ap not (ap (list_any (λ m. changes_by (asked h m))) (sym (c.waiting-arrival-items.ensures h is)) ∙ sym (c.loop-arrival.invariant h is)
    ∙ any_here (λ m. changes_by (asked h m)) c.waiting-arrival-items.result.now c.loop-arrival.arrival-index _ 0 c.loop-arrival-test.true refl (sym (c.is_change.ensures h is) ∙ c.if-is_change.true)))

pub returns : goal.returns
returns c = λ h n is less.
    sym (idle_is h n less ∙ ap not (ap (list_any (λ m. changes_by (asked h m))) (sym (c.waiting-arrival-items.ensures h is)) ∙ sym (c.loop-arrival.invariant h is)
    ∙ any_end (λ m. changes_by (asked h m)) c.waiting-arrival-items.result.now c.loop-arrival.arrival-index c.loop-arrival-test.false))
