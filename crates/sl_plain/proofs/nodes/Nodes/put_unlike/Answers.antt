use Rattle.std.proofs.Common.{List, ℕ, sym, subst, ◌∙◌, rules}
use Rattle.std.specs.FinMap as map
use Rattle.std.specs.Map.Iter.{deref_pair}
use Rattle.std.proofs.lemmas.Map.Iter.{rest_more, rest_all}
use Rattle.std.specs.Ordering.{nat_cmp}
use Rattle.std.proofs.lemmas.Cmp.{nat_cmp_total}
use Rattle.std.proofs.lemmas.Map.Lookups.{exact_unsigned}
use Rattle.sl_plain.specs.Differing.{IsUnlike}
use Rattle.sl_plain.proofs.DifferingLaws.{Gathering, starts, one_gathered, one_passed, ends}
use Rattle.sl_plain.proofs.nodes.Nodes.put_unlike.Goals as goal

pub loop-fileid-init : goal.loop-fileid-init
loop-fileid-init c = starts nat_cmp nat_cmp_total (IsUnlike c.args.other.now) c.args.self.now c.self.inside.entries.entries _ c.args.unlike.now.items c.self.view_is c.iter-fileid-items.ensures.ordered (search rules)

pub loop-fileid-preserved-then-has : goal.loop-fileid-preserved-then-has
loop-fileid-preserved-then-has c =
    let left = rest_more deref_pair c.loop-fileid.fileid-iterator c.next.new.self c.next.result (c.in-Some.fileid, c.in-Some.node) c.in-Some.is c.next.ensures.steps in
    one_passed (IsUnlike c.args.other.now) (map.entries c.args.self.now) c.next.new.self c.args.unlike.now.items c.loop-fileid.unlike.items (c.in-Some.fileid.now, c.in-Some.node.now)
    (subst (λ es. Gathering (IsUnlike c.args.other.now) (map.entries c.args.self.now) c.args.unlike.now.items es c.loop-fileid.unlike.items) left c.loop-fileid.invariant) (λ no. no (c.has.ensures.0 c.if-has.true))

pub loop-fileid-preserved : goal.loop-fileid-preserved
loop-fileid-preserved c =
    let left = rest_more deref_pair c.loop-fileid.fileid-iterator c.next.new.self c.next.result (c.in-Some.fileid, c.in-Some.node) c.in-Some.is c.next.ensures.steps in
    subst (λ ks. Gathering (IsUnlike c.args.other.now) (map.entries c.args.self.now) c.args.unlike.now.items c.next.new.self ks) (sym c.in-Ok.ensures.items)
    (one_gathered (IsUnlike c.args.other.now) (map.entries c.args.self.now) c.next.new.self c.args.unlike.now.items c.loop-fileid.unlike.items (c.in-Some.fileid.now, c.in-Some.node.now)
    (subst (λ es. Gathering (IsUnlike c.args.other.now) (map.entries c.args.self.now) c.args.unlike.now.items es c.loop-fileid.unlike.items) left c.loop-fileid.invariant) (λ e. cc (c.has.ensures.1 e, c.if-has.false)))

pub returns : goal.returns
returns c =
    let none = rest_all deref_pair c.loop-fileid.fileid-iterator c.next.new.self c.next.result c.in-None.is c.next.ensures.steps in
    ends nat_cmp nat_cmp_total exact_unsigned (IsUnlike c.args.other.now) c.args.self.now c.self.inside.entries.entries c.loop-fileid.fileid-iterator c.args.unlike.now.items c.loop-fileid.unlike.items c.self.view_is c.iter-fileid-items.ensures.ordered none c.loop-fileid.invariant
