use Rattle.std.proofs.Common.{List, ℕ, sym, subst, ◌∙◌, rules}
use Rattle.std.specs.FinMap as map
use Rattle.std.specs.Map.Iter.{deref_pair}
use Rattle.std.proofs.lemmas.Map.Iter.{rest_more, rest_all}
use Rattle.sl_model.specs.Volume.{place_cmp}
use Rattle.sl_plain.proofs.MapLaws.{places_total, exact_places}
use Rattle.sl_plain.specs.Differing.{IsOther}
use Rattle.sl_plain.proofs.DifferingLaws.{Gathering, starts, one_gathered, one_passed, ends}
use Rattle.sl_plain.proofs.written.Written.put_unlike.Goals as goal

pub loop-place-init : goal.loop-place-init
loop-place-init c = starts place_cmp places_total (IsOther c.args.other.now) c.args.self.now c.self.inside.entries.entries _ c.args.unlike.now.items c.self.view_is c.iter-place-items.ensures.ordered (search rules)

pub loop-place-preserved-then-at-byte : goal.loop-place-preserved-then-at-byte
loop-place-preserved-then-at-byte c =
    let left = rest_more deref_pair c.loop-place.place-iterator c.next.new.self c.next.result (c.in-Some.place, c.in-Some.byte) c.in-Some.is c.next.ensures.steps in
    one_passed (IsOther c.args.other.now) (map.entries c.args.self.now) c.next.new.self c.args.unlike.now.items c.loop-place.unlike.items (c.in-Some.place.now, c.in-Some.byte.now)
    (subst (λ es. Gathering (IsOther c.args.other.now) (map.entries c.args.self.now) c.args.unlike.now.items es c.loop-place.unlike.items) left c.loop-place.invariant) (λ f. f (sym c.at.ensures ∙ c.if-at-byte.true))

pub loop-place-preserved : goal.loop-place-preserved
loop-place-preserved c =
    let left = rest_more deref_pair c.loop-place.place-iterator c.next.new.self c.next.result (c.in-Some.place, c.in-Some.byte) c.in-Some.is c.next.ensures.steps in
    subst (λ ks. Gathering (IsOther c.args.other.now) (map.entries c.args.self.now) c.args.unlike.now.items c.next.new.self ks) (sym c.in-Ok.ensures.items)
    (one_gathered (IsOther c.args.other.now) (map.entries c.args.self.now) c.next.new.self c.args.unlike.now.items c.loop-place.unlike.items (c.in-Some.place.now, c.in-Some.byte.now)
    (subst (λ es. Gathering (IsOther c.args.other.now) (map.entries c.args.self.now) c.args.unlike.now.items es c.loop-place.unlike.items) left c.loop-place.invariant) (λ e. c.if-at-byte.false (c.at.ensures ∙ e)))

pub returns : goal.returns
returns c =
    let none = rest_all deref_pair c.loop-place.place-iterator c.next.new.self c.next.result c.in-None.is c.next.ensures.steps in
    ends place_cmp places_total exact_places (IsOther c.args.other.now) c.args.self.now c.self.inside.entries.entries c.loop-place.place-iterator c.args.unlike.now.items c.loop-place.unlike.items c.self.view_is c.iter-place-items.ensures.ordered none c.loop-place.invariant
