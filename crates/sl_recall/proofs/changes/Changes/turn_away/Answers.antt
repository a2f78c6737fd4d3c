use Rattle.std.proofs.Common.{refl}
use Rattle.sl_recall.proofs.ChangeLaws.{none_left, still_left, turned_away}
use Rattle.sl_recall.proofs.changes.Changes.turn_away.Goals as goal

pub returns-then-self-event : goal.returns-then-self-event
returns-then-self-event c = λ t past r d is.
    turned_away t past c.args.self.now (record { newest = 0; last = c.args.self.now.last; before = c.args.self.now.before }) c.args.event r is d (none_left c.args.event c.args.self.now.newest c.if-self-event.true) refl refl

pub returns-else-self-event : goal.returns-else-self-event
returns-else-self-event c = λ t past r d is.
    turned_away t past c.args.self.now c.args.self.now c.args.event r is d (still_left c.args.event c.args.self.now.newest c.if-self-event.false) refl refl
