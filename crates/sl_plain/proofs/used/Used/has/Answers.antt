use Rattle.std.proofs.Common.{◌∙◌, sym, ap}
use Rattle.std.specs.Prelude.{is_some}
use Rattle.std.specs.FinMap as map
use Rattle.std.specs.Ordering.{nat_cmp}
use Rattle.std.proofs.lemmas.Cmp.{nat_cmp_total}
use Rattle.sl_plain.proofs.MapLaws.{get_at}
use Rattle.sl_plain.proofs.used.Used.has.Goals as goal

pub returns-in-Some : goal.returns-in-Some
returns-in-Some c = ap is_some (c.in-Some.ensures.value ∙ sym (get_at nat_cmp nat_cmp_total c.self.inside.entries.entries c.args.fileid) ∙ ap (λ m. map.get m c.args.fileid) c.self.view_is)

pub returns-in-None : goal.returns-in-None
returns-in-None c = ap is_some (c.in-None.ensures.value ∙ sym (get_at nat_cmp nat_cmp_total c.self.inside.entries.entries c.args.fileid) ∙ ap (λ m. map.get m c.args.fileid) c.self.view_is)
