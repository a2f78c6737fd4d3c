use Rattle.std.proofs.Common.{ℕ, List, ◌∙◌, sym, ap}
use Rattle.std.specs.Prelude.{map as each}
use Rattle.std.specs.FinMap as map
use Rattle.sl_model.specs.Volume.{name_cmp}
use Rattle.sl_plain.specs.Maps.{named}
use Rattle.std.specs.BTreeMap.{is_at}
use Rattle.std.specs.Map.{lookup}
use Rattle.sl_plain.proofs.MapLaws.{taken, remove_named, lookup_named, names_total, exact_names}
use Rattle.sl_plain.proofs.names.Names.take.Goals as goal

pub returns : goal.returns
returns c =
    let k : ℕ × List ℕ = (c.args.place.now.dir, c.args.place.now.name.items) in
    let es = c.self.inside.entries.entries in
    let left = c.remove.ensures.entries in
    ap (λ es. map.from_entries (each named es)) left ∙ ap map.from_entries (remove_named c.args.place.now es)
    ∙ taken name_cmp names_total exact_names (each named es) k
    (sym (ap (lookup (is_at (name_cmp k))) (remove_named c.args.place.now es)) ∙ sym (ap (λ fs. lookup (is_at (name_cmp k)) (each named fs)) left)
    ∙ sym (lookup_named c.args.place.now c.remove.new.self.entries) ∙ c.remove.ensures.updates.1)
    ∙ ap (λ m. map.remove m k) c.self.view_is
