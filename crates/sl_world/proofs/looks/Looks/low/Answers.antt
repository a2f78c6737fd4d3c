use Rattle.std.proofs.Common.{◌∙◌, sym, ap, rules}
use Rattle.std.specs.FinMap as map
use Rattle.std.specs.Map.Iter.{deref_pair}
use Rattle.std.proofs.lemmas.Map.Iter.{rest_more}
use Rattle.sl_world.specs.Proxying.{low_in}
use Rattle.sl_world.proofs.Trees.{entries_of, low_more}
use Rattle.sl_world.proofs.looks.Looks.low.Goals as goal

pub loop-look-init : goal.loop-look-init
loop-look-init c = ap (λ es. low_in es c.args.next) (search rules)
    ∙ ap (λ es. low_in es c.args.next) (sym (entries_of c.self.inside.calls.entries c.iter-look-items.ensures.ordered) ∙ ap map.entries c.self.view_is)

pub loop-look-preserved : goal.loop-look-preserved
loop-look-preserved c = ap (low_in c.next.new.self) (search rules) ∙ low_more c.next.new.self c.loop-look.low c.in-Some.look.now.tag
    ∙ sym (ap (λ es. low_in es c.loop-look.low) (rest_more deref_pair c.loop-look.look-iterator c.next.new.self c.next.result (c.in-Some.field-0-0, c.in-Some.look) c.in-Some.is c.next.ensures.steps)) ∙ c.loop-look.invariant
