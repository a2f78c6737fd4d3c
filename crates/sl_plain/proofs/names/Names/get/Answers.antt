use Rattle.std.proofs.Common.{◌∙◌, sym, ap}
use Rattle.std.specs.Prelude.{map as each}
use Rattle.std.specs.FinMap as map
use Rattle.sl_model.specs.Volume.{name_cmp}
use Rattle.sl_plain.specs.Maps.{named}
use Rattle.sl_plain.proofs.MapLaws.{get_at, lookup_named, names_total}
use Rattle.sl_plain.proofs.names.Names.get.Goals as goal

pub returns-in-Some : goal.returns-in-Some
returns-in-Some c = c.in-Some.ensures.value ∙ lookup_named c.args.place.now c.self.inside.entries.entries ∙ sym (get_at name_cmp names_total (each named c.self.inside.entries.entries) (c.args.place.now.dir, c.args.place.now.name.items)) ∙ ap (λ m. map.get m (c.args.place.now.dir, c.args.place.now.name.items)) c.self.view_is

pub returns-in-None : goal.returns-in-None
returns-in-None c = c.in-None.ensures.value ∙ lookup_named c.args.place.now c.self.inside.entries.entries ∙ sym (get_at name_cmp names_total (each named c.self.inside.entries.entries) (c.args.place.now.dir, c.args.place.now.name.items)) ∙ ap (λ m. map.get m (c.args.place.now.dir, c.args.place.now.name.items)) c.self.view_is
