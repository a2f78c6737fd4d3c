use Rattle.std.proofs.Common.{◌∙◌, ap}
use Rattle.std.specs.FinMap as map
use Rattle.std.specs.Ordering.{nat_cmp}
use Rattle.std.proofs.lemmas.Cmp.{nat_cmp_total}
use Rattle.std.proofs.lemmas.Map.Lookups.{exact_unsigned}
use Rattle.sl_plain.proofs.MapLaws.{given}
use Rattle.sl_plain.proofs.nodes.Nodes.put.Goals as goal

pub returns : goal.returns
returns c = ap map.from_entries c.in-Ok.ensures.entries ∙ given nat_cmp nat_cmp_total exact_unsigned c.self.inside.entries.entries c.args.fileid c.args.node ∙ ap (λ m. map.insert m c.args.fileid c.args.node) c.self.view_is
