use Rattle.std.proofs.Common.{◌≡◌, true, Option, Some, None, refl, sym, ap, ◌∙◌, subst, rules}
use Rattle.std.specs.Prelude.{is_some}
use Rattle.std.specs.FinMap as map
use Rattle.std.specs.Map.Iter.{deref_pair}
use Rattle.std.proofs.lemmas.Map.Iter.{rest_more, rest_all}
use Rattle.sl_model.specs.Volume.{place_cmp}
use Rattle.sl_plain.proofs.MapLaws.{places_total, exact_places}
use Rattle.sl_plain.proofs.DifferingLaws.{Within, within_starts, one_within, one_not_within, within_ends, within_fails}
use Rattle.sl_plain.proofs.written.Written.is_within.Goals as goal

pub loop-place-init : goal.loop-place-init
loop-place-init c = within_starts place_cmp places_total c.args.self.now c.args.other.now c.self.inside.entries.entries _ c.self.view_is c.iter-place-items.ensures.ordered (search rules)

pub returns-then-not-has : goal.returns-then-not-has
returns-then-not-has c =
    let left = rest_more deref_pair c.loop-place.place-iterator c.next.new.self c.next.result (c.in-Some.place, c.in-Some.byte) c.in-Some.is c.next.ensures.steps in
    within_fails place_cmp places_total exact_places c.args.self.now c.args.other.now c.self.inside.entries.entries c.next.new.self (c.in-Some.place.now, c.in-Some.byte.now) c.self.view_is c.iter-place-items.ensures.ordered (λ g. cc (c.has.ensures.1 g, c.if-not-has.true))
    (subst (Within c.args.other.now (map.entries c.args.self.now)) left c.loop-place.invariant)

pub loop-place-preserved : goal.loop-place-preserved
loop-place-preserved c =
    let left = rest_more deref_pair c.loop-place.place-iterator c.next.new.self c.next.result (c.in-Some.place, c.in-Some.byte) c.in-Some.is c.next.ensures.steps in
    one_within c.args.other.now (map.entries c.args.self.now) c.next.new.self (c.in-Some.place.now, c.in-Some.byte.now) (c.has.ensures.0 c.if-not-has.false) (subst (Within c.args.other.now (map.entries c.args.self.now)) left c.loop-place.invariant)

pub returns : goal.returns
returns c =
    let none = rest_all deref_pair c.loop-place.place-iterator c.next.new.self c.next.result c.in-None.is c.next.ensures.steps in
    within_ends place_cmp places_total exact_places c.args.self.now c.args.other.now c.self.inside.entries.entries c.loop-place.place-iterator c.self.view_is c.iter-place-items.ensures.ordered none c.loop-place.invariant
