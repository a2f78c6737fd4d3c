use Rattle.std.proofs.Common.{sym, subst, ◌∙◌}
use Rattle.std.specs.Bool.{Decides}
use Rattle.sl_recall.specs.Memories.{Knows}
use Rattle.sl_recall.proofs.KnownLaws.{decides, not_calm, unknown}
use Rattle.sl_recall.proofs.memory.Memory.knows.Goals as goal

pub returns-then-is_calm : goal.returns-then-is_calm
returns-then-is_calm c = λ h is le.
    decides h c.args.self.now c.args.call c.args.file c.in-Some.telling c.datagrams_since.result is le c.in-Some.ensures (sym (c.is_calm.ensures h is) ∙ c.if-is_calm.true) (c.datagrams_since.ensures h c.args.file is.follows.tellings c.in-Some.ensures.is)

pub returns-else-is_calm : goal.returns-else-is_calm
returns-else-is_calm c = λ h is le.
    subst (λ b. Decides b (Knows h c.args.call c.args.file)) (sym c.if-is_calm.false)
    (not_calm h c.args.self.now c.args.call c.args.file c.in-Some.telling is le c.in-Some.ensures (sym (c.is_calm.ensures h is) ∙ c.if-is_calm.false))

pub returns-in-None : goal.returns-in-None
returns-in-None c = λ h is le. unknown h c.args.self.now c.args.call c.args.file is le c.in-None.ensures
