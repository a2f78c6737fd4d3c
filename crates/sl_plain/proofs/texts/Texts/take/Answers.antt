use Rattle.std.proofs.Common.{◌∙◌, sym, ap}
use Rattle.std.specs.FinMap as map
use Rattle.std.specs.Ordering.{nat_cmp}
use Rattle.std.proofs.lemmas.Cmp.{nat_cmp_total}
use Rattle.std.proofs.lemmas.Map.Lookups.{exact_unsigned}
use Rattle.std.specs.BTreeMap.{is_at}
use Rattle.std.specs.Map.{lookup}
use Rattle.sl_plain.proofs.MapLaws.{taken}
use Rattle.sl_plain.proofs.texts.Texts.take.Goals as goal

pub returns : goal.returns
returns c = ap map.from_entries c.remove.ensures.entries
    ∙ taken nat_cmp nat_cmp_total exact_unsigned c.self.inside.entries.entries c.args.fileid (sym (ap (lookup (is_at (nat_cmp c.args.fileid))) c.remove.ensures.entries) ∙ c.remove.ensures.updates.1)
    ∙ ap (λ m. map.remove m c.args.fileid) c.self.view_is
