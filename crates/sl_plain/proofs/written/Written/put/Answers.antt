use Rattle.std.proofs.Common.{◌∙◌, ap}
use Rattle.std.specs.FinMap as map
use Rattle.sl_model.specs.Volume.{place_cmp}
use Rattle.sl_plain.proofs.MapLaws.{given, places_total, exact_places}
use Rattle.sl_plain.proofs.written.Written.put.Goals as goal

pub returns : goal.returns
returns c = ap map.from_entries c.in-Ok.ensures.entries ∙ given place_cmp places_total exact_places c.self.inside.entries.entries (c.args.file, c.args.offset) c.args.byte ∙ ap (λ m. map.insert m (c.args.file, c.args.offset) c.args.byte) c.self.view_is
