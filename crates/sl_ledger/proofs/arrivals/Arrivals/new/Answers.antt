use Rattle.std.proofs.Common.{[], ◌∷◌, ◌++◌, None, false, refl, ap, ◌∙◌}
use Rattle.sl_ledger.proofs.ArrivalLaws.{arrivals_none}
use Rattle.sl_ledger.proofs.arrivals.Arrivals.new.Goals as goal

pub returns : goal.returns
returns c =
    arrivals_none (record { datagrams = c.push.new.items; is_event = false; waiting = c.new.result })
    (c.in_ok-push.ensures ∙ ap (λ ds. ds ++ None ∷ []) c.new-datagrams.ensures.items) refl c.new.ensures.items
