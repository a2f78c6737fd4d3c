use Rattle.std.proofs.Common.{ap, take, drop, ◌∙◌}
use Rattle.sl_route.specs.declared.class.Class.TheVariants as class
use Rattle.sl_route.proofs.TableLaws.{bytes_length, dirs_part, small_part, nodes_part, passes}
use Rattle.sl_route.proofs.table.Table.read.Goals as goal
use Rattle.sl_route.proofs.table.Table.read.Goals.{then-not-are_servers-via-then-not-are_servers, then-not-are_servers-via-else-not-are_servers+then-not-are_servers-2, then-not-are_servers-via-else-not-are_servers+else-not-are_servers-2+then-not-are_servers-3}

pub returns-then-bytes-ne144-clause-none : goal.returns-then-bytes-ne144-clause-none
returns-then-bytes-ne144-clause-none c = λ p is e. c.if-bytes-ne144.true (bytes_length c.args.bytes.now p is e)

pub returns-then-not-are_servers-clause-none : goal.returns-then-not-are_servers-clause-none
returns-then-not-are_servers-clause-none c = λ p is e.
    let all = c.args.bytes.now in
    let back = c.split_at.ensures.back in
    elim c.then-not-are_servers.branch [
      | then-not-are_servers-via-then-not-are_servers w ↦
          passes p is class.Dir _ _ c.are_servers.ensures.1 w.if-not-are_servers.true (c.split_at.ensures.front ∙ dirs_part all p is e)
      | then-not-are_servers-via-else-not-are_servers+then-not-are_servers-2 w ↦
          passes p is class.Small _ _ w.are_servers-else-not-are_servers.ensures.1 w.if-not-are_servers-2.true (c.split_at-2.ensures.front ∙ ap (take 16) back ∙ small_part all p is e)
      | then-not-are_servers-via-else-not-are_servers+else-not-are_servers-2+then-not-are_servers-3 w ↦
          passes p is class.Node _ _ w.are_servers-else-not-are_servers-2.ensures.1 w.if-not-are_servers-3.true (c.split_at-2.ensures.back ∙ ap (drop 16) back ∙ nodes_part all p is e)
    ]
