use Rattle.std.proofs.Common.{◌∙◌, sym, ap}
use Rattle.std.specs.FinMap as map
use Rattle.std.specs.Ordering.{nat_cmp}
use Rattle.std.proofs.lemmas.Cmp.{nat_cmp_total}
use Rattle.sl_plain.proofs.CopyLaws.{len_of}
use Rattle.sl_plain.proofs.nodes.Nodes.len.Goals as goal

pub returns-clause-len : goal.returns-clause-len
returns-clause-len c = c.len.ensures.len ∙ sym (len_of nat_cmp nat_cmp_total c.self.inside.entries.entries c.len.ensures.ordered) ∙ ap map.len c.self.view_is
