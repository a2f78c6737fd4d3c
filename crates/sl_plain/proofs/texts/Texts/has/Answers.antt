use Rattle.std.proofs.Common.{◌∙◌, sym, ap, rules}
use Rattle.std.specs.FinMap as map
use Rattle.std.specs.Ordering.{nat_cmp}
use Rattle.std.proofs.lemmas.Cmp.{nat_cmp_total}
use Rattle.sl_plain.proofs.MapLaws.{get_at}
use Rattle.sl_plain.proofs.DifferingLaws.{told_by, told_none}
use Rattle.sl_plain.proofs.texts.Texts.has.Goals as goal

pub returns-in-Some : goal.returns-in-Some
returns-in-Some c = told_by c.are_same.result (map.get c.args.self.now c.args.fileid) c.in-Some.there.now c.args.text.now (c.in-Some.ensures.value ∙ sym (get_at nat_cmp nat_cmp_total c.self.inside.entries.entries c.args.fileid) ∙ ap (λ m. map.get m c.args.fileid) c.self.view_is) (search rules)

pub returns-in-None : goal.returns-in-None
returns-in-None c = told_none (map.get c.args.self.now c.args.fileid) c.args.text.now (c.in-None.ensures.value ∙ sym (get_at nat_cmp nat_cmp_total c.self.inside.entries.entries c.args.fileid) ∙ ap (λ m. map.get m c.args.fileid) c.self.view_is)
