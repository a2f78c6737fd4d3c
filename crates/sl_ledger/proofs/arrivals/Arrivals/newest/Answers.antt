use Rattle.std.proofs.Common.{◌∷◌, ap, ◌∙◌}
use Rattle.sl_ledger.specs.Waiting.{arrived}
use Rattle.sl_ledger.proofs.ArrivalLaws.{newest_event}
use Rattle.sl_ledger.proofs.arrivals.Arrivals.newest.Goals as goal

pub returns-then-self : goal.returns-then-self
returns-then-self c = λ t past is.
    c.datagram.ensures (t ∷ past) is ∙ ap (arrived (t ∷ past)) (c.events.ensures.newest (t ∷ past) is) ∙ newest_event t past c.args.self.now is c.if-self.true
