use Rattle.sl_route.proofs.SpanLaws.{in_parts, in_one_part}
use Rattle.sl_route.proofs.table.Table.spans.Goals as goal

pub returns-then-above-to : goal.returns-then-above-to
returns-then-above-to c = λ actor.
    in_parts c.args.self.now c.args.fileid c.args.from c.args.to actor c.max-above.result c.max-above.ensures _ _ (c.with_units.ensures actor) (c.small_span-small.ensures actor) c.if-above-to.true

pub returns-else-above-to : goal.returns-else-above-to
returns-else-above-to c = λ actor.
    in_one_part c.args.self.now c.args.fileid c.args.from c.args.to actor c.max-above.result c.max-above.ensures _ (c.small_span-small.ensures actor) c.if-above-to.false
