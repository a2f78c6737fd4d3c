use Rattle.std.proofs.Common.{◌∙◌, sym, ap}
use Rattle.std.specs.FinMap as map
use Rattle.std.specs.Ordering.{nat_cmp}
use Rattle.std.specs.BTreeMap.{is_at}
use Rattle.std.specs.Map.{lookup}
use Rattle.sl_world.proofs.Trees.{get_at, taken}
use Rattle.sl_world.proofs.looks.Looks.take.Goals as goal

pub returns-clause-taken : goal.returns-clause-taken
returns-clause-taken c = ap map.from_entries c.remove.ensures.entries
    ∙ taken c.self.inside.calls.entries c.args.event (sym (ap (lookup (is_at (nat_cmp c.args.event))) c.remove.ensures.entries) ∙ c.remove.ensures.updates.1)
    ∙ ap (λ m. map.remove m c.args.event) c.self.view_is

pub returns-clause-value : goal.returns-clause-value
returns-clause-value c = c.remove.ensures.value ∙ sym (get_at c.self.inside.calls.entries c.args.event) ∙ ap (λ m. map.get m c.args.event) c.self.view_is
