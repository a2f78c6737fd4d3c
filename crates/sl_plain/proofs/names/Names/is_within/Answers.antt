use Rattle.std.proofs.Common.{◌≡◌, true, Option, Some, None, refl, sym, ap, ◌∙◌, subst, rules}
use Rattle.std.specs.Prelude.{is_some}
use Rattle.std.specs.Prelude.{map as each}
use Rattle.sl_plain.specs.Maps.{named}
use Rattle.std.specs.FinMap as map
use Rattle.std.specs.Map.Iter.{deref_pair}
use Rattle.std.proofs.lemmas.Map.Iter.{rest_more, rest_all}
use Rattle.sl_model.specs.Volume.{name_cmp}
use Rattle.sl_plain.proofs.MapLaws.{names_total, exact_names}
use Rattle.sl_plain.proofs.CopyLaws.{sorted_named}
use Rattle.sl_plain.proofs.DifferingLaws.{Within, within_starts, one_within, one_not_within, within_ends, within_fails}
use Rattle.sl_plain.proofs.names.Names.is_within.Goals as goal

pub loop-place-init : goal.loop-place-init
loop-place-init c = within_starts name_cmp names_total c.args.self.now c.args.other.now (each named c.self.inside.entries.entries) _ c.self.view_is (sorted_named c.self.inside.entries.entries c.iter-place-items.ensures.ordered) (ap (each named) (search rules))

pub returns-then-not-has : goal.returns-then-not-has
returns-then-not-has c =
    let left = ap (each named) (rest_more deref_pair c.loop-place.place-iterator c.next.new.self c.next.result (c.in-Some.place, c.in-Some.entry) c.in-Some.is c.next.ensures.steps) in
    within_fails name_cmp names_total exact_names c.args.self.now c.args.other.now (each named c.self.inside.entries.entries) (each named c.next.new.self) (named (c.in-Some.place.now, c.in-Some.entry.now)) c.self.view_is (sorted_named c.self.inside.entries.entries c.iter-place-items.ensures.ordered) (λ g. cc (c.has.ensures.1 g, c.if-not-has.true))
    (subst (Within c.args.other.now (map.entries c.args.self.now)) left c.loop-place.invariant)

pub loop-place-preserved : goal.loop-place-preserved
loop-place-preserved c =
    let left = ap (each named) (rest_more deref_pair c.loop-place.place-iterator c.next.new.self c.next.result (c.in-Some.place, c.in-Some.entry) c.in-Some.is c.next.ensures.steps) in
    one_within c.args.other.now (map.entries c.args.self.now) (each named c.next.new.self) (named (c.in-Some.place.now, c.in-Some.entry.now)) (c.has.ensures.0 c.if-not-has.false) (subst (Within c.args.other.now (map.entries c.args.self.now)) left c.loop-place.invariant)

pub returns : goal.returns
returns c =
    let none = ap (each named) (rest_all deref_pair c.loop-place.place-iterator c.next.new.self c.next.result c.in-None.is c.next.ensures.steps) in
    within_ends name_cmp names_total exact_names c.args.self.now c.args.other.now (each named c.self.inside.entries.entries) (each named c.loop-place.place-iterator) c.self.view_is (sorted_named c.self.inside.entries.entries c.iter-place-items.ensures.ordered) none c.loop-place.invariant
