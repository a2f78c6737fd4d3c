use Rattle.std.proofs.Common.{◌∙◌, ◌≡◌, [], sym, ap, subst, IfOk}
use Rattle.std.specs.Option.{unwrap_or}
use Rattle.std.specs.FinMap as map
use Rattle.std.specs.Ordering.{nat_cmp}
use Rattle.std.proofs.lemmas.Cmp.{nat_cmp_total}
use Rattle.sl_plain.proofs.MapLaws.{get_at}
use Rattle.sl_plain.proofs.texts.Texts.copy_of.Goals as goal

pub returns-in-Some : goal.returns-in-Some
returns-in-Some c = subst (λ z. IfOk c.copy.result (λ t. t ≡ z))
    (ap (λ o. unwrap_or o []) (c.in-Some.ensures.value ∙ sym (get_at nat_cmp nat_cmp_total c.self.inside.entries.entries c.args.fileid) ∙ ap (λ m. map.get m c.args.fileid) c.self.view_is)) c.copy.ensures

pub returns-in-None : goal.returns-in-None
returns-in-None c = c.new-in-None.ensures ∙ c.new.ensures.items
    ∙ ap (λ o. unwrap_or o []) (c.in-None.ensures.value ∙ sym (get_at nat_cmp nat_cmp_total c.self.inside.entries.entries c.args.fileid) ∙ ap (λ m. map.get m c.args.fileid) c.self.view_is)
