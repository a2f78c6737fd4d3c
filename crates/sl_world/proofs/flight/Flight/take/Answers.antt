use Rattle.std.proofs.Common.{◌∙◌, sym, ap}
use Rattle.std.specs.FinMap as map
use Rattle.std.specs.Ordering.{nat_cmp}
use Rattle.std.specs.BTreeMap.{is_at}
use Rattle.std.specs.Map.{lookup}
use Rattle.sl_world.proofs.Trees.{get_at, taken}
use Rattle.sl_world.proofs.flight.Flight.take.Goals as goal

pub returns-clause-taken : goal.returns-clause-taken
returns-clause-taken c = ap map.from_entries c.remove.ensures.entries
    ∙ taken c.self.inside.frames.entries c.args.number (sym (ap (lookup (is_at (nat_cmp c.args.number))) c.remove.ensures.entries) ∙ c.remove.ensures.updates.1)
    ∙ ap (λ m. map.remove m c.args.number) c.self.view_is

pub returns-clause-value : goal.returns-clause-value
returns-clause-value c = c.remove.ensures.value ∙ sym (get_at c.self.inside.frames.entries c.args.number) ∙ ap (λ m. map.get m c.args.number) c.self.view_is
