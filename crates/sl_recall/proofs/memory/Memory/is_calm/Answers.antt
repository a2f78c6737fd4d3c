use Rattle.std.proofs.Common.{◌∙◌}
use Rattle.sl_recall.proofs.KnownLaws.{calm_by, loud}
use Rattle.sl_recall.proofs.memory.Memory.is_calm.Goals as goal

pub returns-then-self-event : goal.returns-then-self-event
returns-then-self-event c = λ h is. loud h c.args.self.now c.args.event c.args.call is c.if-self-event.true

pub returns : goal.returns
returns c = λ h is. c.is_calm.ensures h is.follows.changes ∙ calm_by h c.args.self.now c.args.event c.args.call is c.if-self-event.false
