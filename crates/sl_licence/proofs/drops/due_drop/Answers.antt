use Rattle.std.proofs.Common.{[], ◌∷◌, ap, ◌∙◌}
use Rattle.sl_history.specs.Turns.{so_far}
use Rattle.sl_datagram.specs.Datagrams.{datagram_of}
use Rattle.sl_licence.specs.Drops.{notes_of}
use Rattle.sl_licence.proofs.Dropping.{something_due}
use Rattle.sl_licence.proofs.drops.due_drop.Goals as goal

pub returns-in-Some : goal.returns-in-Some
returns-in-Some c = λ t past is door.
    ap notes_of c.dropped_by.ensures
    ∙ something_due past t (datagram_of c.in-Some.datagram.now) c.args.door c.events.result (c.in-Some.ensures (so_far t []) past is) door (c.events.ensures (so_far t [] ∷ past) is)
