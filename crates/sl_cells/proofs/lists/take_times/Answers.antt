use Rattle.std.proofs.Common.{◌≡◌, ◌∙◌, ◌++◌, ◌∷◌, [], ℕ, List, Option, Some, rules, ap, subst, arith}
use Rattle.std.proofs.lemmas.Grind.{common_steps}
use Rattle.sl_cells.proofs.Elements.{SoFar, begins, goes_on, no_element, all_read}
use Rattle.sl_cells.proofs.lists.take_times.Goals as goal

pub loop-i-init : goal.loop-i-init
loop-i-init g c = rw c.new-items.ensures.items (begins g.T.Item.at c.args.count c.args.cursor.now.rest)

pub returns-in-Err : goal.returns-in-Err
returns-in-Err g c = record { exact = no_element g.T.Item.at c.args.count c.loop-i._i c.args.cursor.now.rest c.loop-i.cursor.rest c.loop-i.items.items c.loop-i.invariant c.in-Err.fault c.loop-i-test.true c.in-Err.ensures.exact }

pub loop-i-preserved : goal.loop-i-preserved
loop-i-preserved g c =
    let grown : c.push.new.self.items ≡ c.loop-i.items.items ++ c.in-Ok.item ∷ [] = first_of (search rules, grind (arith, common_steps)) in
    rw grown (goes_on g.T.Item.at c.args.count c.loop-i._i c.args.cursor.now.rest c.loop-i.cursor.rest c.loop-i.items.items c.loop-i.invariant c.take.new.cursor.rest c.in-Ok.item c.in-Ok.ensures.exact)

pub returns : goal.returns
returns g c =
    let all : c.loop-i._i ≡ c.args.count = omega arith in
    record { exact = all_read g.T.Item.at c.args.count c.args.cursor.now.rest c.loop-i.cursor.rest c.loop-i.items.items (subst (λ (i : ℕ). SoFar g.T.Item.at c.args.count i c.args.cursor.now.rest c.loop-i.items.items c.loop-i.cursor.rest) all c.loop-i.invariant) }
