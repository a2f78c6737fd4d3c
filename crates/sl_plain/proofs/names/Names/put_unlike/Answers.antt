use Rattle.std.proofs.Common.{List, [], ℕ, ◌∙◌, sym, ap, subst, rules}
use Rattle.std.specs.Prelude.{map as each}
use Rattle.std.specs.FinMap as map
use Rattle.std.specs.Map.Iter.{deref_pair}
use Rattle.std.proofs.lemmas.Map.Iter.{rest_more, rest_all}
use Rattle.sl_model.specs.Volume.{name_cmp}
use Rattle.sl_plain.specs.Maps.{named, key_of}
use Rattle.sl_plain.specs.Differing.{IsUnlike}
use Rattle.sl_plain.proofs.MapLaws.{names_total, exact_names}
use Rattle.sl_plain.proofs.CopyLaws.{sorted_named}
use Rattle.sl_plain.proofs.DifferingLaws.{Gathering, starts, one_place_gathered, one_passed, ends}
use Rattle.sl_plain.proofs.names.Names.put_unlike.Goals as goal

pub loop-place-init : goal.loop-place-init
loop-place-init c = starts name_cmp names_total (IsUnlike c.args.other.now) c.args.self.now (each named c.self.inside.entries.entries) (each named c.into_iter-place-iterator.result) (each key_of c.args.unlike.now.items) c.self.view_is (sorted_named c.self.inside.entries.entries c.iter-place-items.ensures.ordered) (ap (each named) (search rules))

pub loop-place-preserved-then-has : goal.loop-place-preserved-then-has
loop-place-preserved-then-has c =
    let left = ap (each named) (rest_more deref_pair c.loop-place.place-iterator c.next.new.self c.next.result (c.in-Some.place, c.in-Some.entry) c.in-Some.is c.next.ensures.steps) in
    one_passed (IsUnlike c.args.other.now) (map.entries c.args.self.now) (each named c.next.new.self) (each key_of c.args.unlike.now.items) (each key_of c.loop-place.unlike.items) (named (c.in-Some.place.now, c.in-Some.entry.now))
    (subst (λ es. Gathering (IsUnlike c.args.other.now) (map.entries c.args.self.now) (each key_of c.args.unlike.now.items) es (each key_of c.loop-place.unlike.items)) left c.loop-place.invariant) (λ no. no (c.has.ensures.0 c.if-has.true))

pub loop-place-preserved : goal.loop-place-preserved
loop-place-preserved c =
    let left = ap (each named) (rest_more deref_pair c.loop-place.place-iterator c.next.new.self c.next.result (c.in-Some.place, c.in-Some.entry) c.in-Some.is c.next.ensures.steps) in
    subst (λ ps. Gathering (IsUnlike c.args.other.now) (map.entries c.args.self.now) (each key_of c.args.unlike.now.items) (each named c.next.new.self) (each key_of ps)) (sym c.in-Ok.ensures.items)
    (one_place_gathered (IsUnlike c.args.other.now) (map.entries c.args.self.now) (each named c.next.new.self) (each key_of c.args.unlike.now.items) c.loop-place.unlike.items (named (c.in-Some.place.now, c.in-Some.entry.now)) c.in_ok-copy.field-0
    (subst (λ es. Gathering (IsUnlike c.args.other.now) (map.entries c.args.self.now) (each key_of c.args.unlike.now.items) es (each key_of c.loop-place.unlike.items)) left c.loop-place.invariant) (λ e. cc (c.has.ensures.1 e, c.if-has.false)) c.in_ok-copy.ensures)

pub returns : goal.returns
returns c =
    let none = ap (each named) (rest_all deref_pair c.loop-place.place-iterator c.next.new.self c.next.result c.in-None.is c.next.ensures.steps) in
    ends name_cmp names_total exact_names (IsUnlike c.args.other.now) c.args.self.now (each named c.self.inside.entries.entries) (each named c.loop-place.place-iterator) (each key_of c.args.unlike.now.items) (each key_of c.loop-place.unlike.items) c.self.view_is (sorted_named c.self.inside.entries.entries c.iter-place-items.ensures.ordered) none c.loop-place.invariant
