use Rattle.std.proofs.Common.{◌∙◌, ap}
use Rattle.std.specs.Prelude.{map as each}
use Rattle.std.specs.FinMap as map
use Rattle.sl_model.specs.Volume.{name_cmp}
use Rattle.sl_plain.specs.Maps.{named}
use Rattle.sl_plain.proofs.MapLaws.{given, insert_named, names_total, exact_names}
use Rattle.sl_plain.proofs.names.Names.put.Goals as goal

pub returns : goal.returns
returns c = ap (λ es. map.from_entries (each named es)) c.in-Ok.ensures.entries
    ∙ ap map.from_entries (insert_named c.self.inside.entries.entries c.args.place c.args.entry)
    ∙ given name_cmp names_total exact_names (each named c.self.inside.entries.entries) (c.args.place.dir, c.args.place.name.items) c.args.entry
    ∙ ap (λ m. map.insert m (c.args.place.dir, c.args.place.name.items) c.args.entry) c.self.view_is
