use Rattle.std.proofs.Common.{◌∙◌, sym, ap, [], rules}
use Rattle.std.specs.Prelude.{map as each}
use Rattle.std.specs.FinMap as map
use Rattle.std.specs.BTreeMap.Range.{range_contains}
use Rattle.std.specs.declared.ops.Bound.TheVariants.{Included, Excluded, Unbounded}
use Rattle.sl_model.specs.Volume.{listed, name_cmp}
use Rattle.sl_plain.specs.declared.names.Place.{Place}
use Rattle.sl_plain.specs.Maps.{named, place_order}
use Rattle.sl_plain.proofs.MapLaws.{names_total}
use Rattle.sl_plain.proofs.CopyLaws.{entries_of, sorted_named}
use Rattle.sl_plain.proofs.ListingLaws.{listed_where, inside, inside_last}
use Rattle.sl_plain.proofs.names.Names.of_directory.Goals as goal

pub returns-in-Some : goal.returns-in-Some
returns-in-Some c = λ cookie.
    let first : Place = record { dir = c.args.dir; name = c.new.result } in
    let next : Place = record { dir = c.in-Some.next; name = c.new-in-Some.result } in
    ap (λ es. listed c.args.dir cookie [] (each named es)) (c.range.ensures.between tt)
    ∙ listed_where c.args.dir cookie (λ e. range_contains place_order (Included first) (Excluded next) e.0) (λ e out. inside first next e.0 c.args.dir (search rules) c.new.ensures.items (search rules) out) [] c.self.inside.entries.entries
    ∙ ap (listed c.args.dir cookie []) (sym (entries_of name_cmp names_total (each named c.self.inside.entries.entries) (sorted_named c.self.inside.entries.entries c.range.ensures.ordered)) ∙ ap map.entries c.self.view_is)

pub returns-in-None : goal.returns-in-None
returns-in-None c = λ cookie.
    let first : Place = record { dir = c.args.dir; name = c.new.result } in
    ap (λ es. listed c.args.dir cookie [] (each named es)) (c.range-in-None.ensures.between tt)
    ∙ listed_where c.args.dir cookie (λ e. range_contains place_order (Included first) Unbounded e.0) (λ e out. inside_last first e.0 c.args.dir (search rules) c.new.ensures.items out) [] c.self.inside.entries.entries
    ∙ ap (listed c.args.dir cookie []) (sym (entries_of name_cmp names_total (each named c.self.inside.entries.entries) (sorted_named c.self.inside.entries.entries c.range-in-None.ensures.ordered)) ∙ ap map.entries c.self.view_is)
