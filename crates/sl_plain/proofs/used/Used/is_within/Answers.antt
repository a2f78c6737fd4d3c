use Rattle.std.proofs.Common.{◌≡◌, true, Option, Some, None, refl, sym, ap, ◌∙◌, subst, rules}
use Rattle.std.specs.Prelude.{is_some}
use Rattle.std.specs.FinMap as map
use Rattle.std.specs.Map.Iter.{deref_pair}
use Rattle.std.proofs.lemmas.Map.Iter.{rest_more, rest_all}
use Rattle.std.specs.Ordering.{nat_cmp}
use Rattle.std.proofs.lemmas.Cmp.{nat_cmp_total}
use Rattle.std.proofs.lemmas.Map.Lookups.{exact_unsigned}
use Rattle.sl_plain.proofs.DifferingLaws.{Within, within_starts, one_within, one_not_within, within_ends, within_fails}
use Rattle.sl_plain.proofs.used.Used.is_within.Goals as goal

-- what is there is the one thing that can be
of_unit : (o : Option (Unit {0})) → is_some o ≡ true → o ≡ Some tt
of_unit (Some u) t = refl
of_unit None t = cc

pub loop-fileid-init : goal.loop-fileid-init
loop-fileid-init c = within_starts nat_cmp nat_cmp_total c.args.self.now c.args.other.now c.self.inside.entries.entries _ c.self.view_is c.iter-fileid-items.ensures.ordered (search rules)

pub returns-then-not-has : goal.returns-then-not-has
returns-then-not-has c =
    let left = rest_more deref_pair c.loop-fileid.fileid-iterator c.next.new.self c.next.result (c.in-Some.fileid, c.in-Some.field-0-1) c.in-Some.is c.next.ensures.steps in
    within_fails nat_cmp nat_cmp_total exact_unsigned c.args.self.now c.args.other.now c.self.inside.entries.entries c.next.new.self (c.in-Some.fileid.now, c.in-Some.field-0-1.now) c.self.view_is c.iter-fileid-items.ensures.ordered (λ g. cc (sym c.if-not-has.true ∙ c.has.ensures ∙ ap is_some g))
    (subst (Within c.args.other.now (map.entries c.args.self.now)) left c.loop-fileid.invariant)

pub loop-fileid-preserved : goal.loop-fileid-preserved
loop-fileid-preserved c =
    let left = rest_more deref_pair c.loop-fileid.fileid-iterator c.next.new.self c.next.result (c.in-Some.fileid, c.in-Some.field-0-1) c.in-Some.is c.next.ensures.steps in
    one_within c.args.other.now (map.entries c.args.self.now) c.next.new.self (c.in-Some.fileid.now, c.in-Some.field-0-1.now) (of_unit _ (sym c.has.ensures ∙ c.if-not-has.false)) (subst (Within c.args.other.now (map.entries c.args.self.now)) left c.loop-fileid.invariant)

pub returns : goal.returns
returns c =
    let none = rest_all deref_pair c.loop-fileid.fileid-iterator c.next.new.self c.next.result c.in-None.is c.next.ensures.steps in
    within_ends nat_cmp nat_cmp_total exact_unsigned c.args.self.now c.args.other.now c.self.inside.entries.entries c.loop-fileid.fileid-iterator c.self.view_is c.iter-fileid-items.ensures.ordered none c.loop-fileid.invariant
