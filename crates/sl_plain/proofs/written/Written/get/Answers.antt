use Rattle.std.proofs.Common.{◌∙◌, sym, ap}
use Rattle.std.specs.FinMap as map
use Rattle.sl_model.specs.Volume.{place_cmp}
use Rattle.sl_plain.proofs.MapLaws.{get_at, places_total}
use Rattle.sl_plain.proofs.written.Written.get.Goals as goal

pub returns-in-Some : goal.returns-in-Some
returns-in-Some c = c.in-Some.ensures.value ∙ sym (get_at place_cmp places_total c.self.inside.entries.entries c.args.place) ∙ ap (λ m. map.get m c.args.place) c.self.view_is

pub returns-in-None : goal.returns-in-None
returns-in-None c = c.in-None.ensures.value ∙ sym (get_at place_cmp places_total c.self.inside.entries.entries c.args.place) ∙ ap (λ m. map.get m c.args.place) c.self.view_is
