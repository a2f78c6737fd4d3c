use Rattle.std.proofs.Common.{◌∙◌, ap}
use Rattle.std.specs.FinMap as map
use Rattle.sl_world.proofs.Trees.{given}
use Rattle.sl_world.proofs.flight.Flight.put.Goals as goal

pub returns : goal.returns
returns c = ap map.from_entries c.in-Ok.ensures.entries ∙ given c.self.inside.frames.entries c.args.number c.args.flying ∙ ap (λ m. map.insert m c.args.number c.args.flying) c.self.view_is
