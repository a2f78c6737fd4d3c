use Rattle.std.proofs.Common.{◌∙◌, sym, ap, is_some}
use Rattle.std.specs.FinMap as map
use Rattle.sl_world.proofs.Trees.{get_at}
use Rattle.sl_world.proofs.flight.Flight.has.Goals as goal

pub returns : goal.returns
returns c = c.contains_key.ensures ∙ sym (ap is_some (get_at c.self.inside.frames.entries c.args.number)) ∙ ap (λ m. map.contains_key m c.args.number) c.self.view_is
