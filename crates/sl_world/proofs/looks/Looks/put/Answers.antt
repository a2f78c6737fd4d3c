use Rattle.std.proofs.Common.{◌∙◌, ap}
use Rattle.std.specs.FinMap as map
use Rattle.sl_world.proofs.Trees.{given}
use Rattle.sl_world.proofs.looks.Looks.put.Goals as goal

pub returns : goal.returns
returns c = ap map.from_entries c.in-Ok.ensures.entries ∙ given c.self.inside.calls.entries c.args.event c.args.look ∙ ap (λ m. map.insert m c.args.event c.args.look) c.self.view_is
