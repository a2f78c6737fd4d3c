use Rattle.sl_route.specs.declared.class.Class.TheVariants as class
use Rattle.sl_route.proofs.table.Table.even.Goals as goal
use Rattle.sl_route.proofs.table.Table.even.Goals.{then-not-is_count-via-then-not-is_count, then-not-is_count-via-else-not-is_count+then-not-is_count-2, then-not-is_count-via-else-not-is_count+else-not-is_count-2+then-not-is_count-3}

pub returns-then-not-is_count-clause-none : goal.returns-then-not-is_count-clause-none
returns-then-not-is_count-clause-none c = λ are.
    elim c.then-not-is_count.branch [
      | then-not-is_count-via-then-not-is_count w ↦ let yes = c.is_count.ensures.1 (are.one class.Dir, are.most class.Dir) in cc (yes, w.if-not-is_count.true)
      | then-not-is_count-via-else-not-is_count+then-not-is_count-2 w ↦ let yes = w.is_count-else-not-is_count.ensures.1 (are.one class.Small, are.most class.Small) in cc (yes, w.if-not-is_count-2.true)
      | then-not-is_count-via-else-not-is_count+else-not-is_count-2+then-not-is_count-3 w ↦ let yes = w.is_count-else-not-is_count-2.ensures.1 (are.one class.Node, are.most class.Node) in cc (yes, w.if-not-is_count-3.true)
    ]
