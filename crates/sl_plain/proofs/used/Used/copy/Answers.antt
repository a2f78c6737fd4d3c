use Rattle.std.proofs.Common.{◌∙◌, sym, ap, rules}
use Rattle.std.specs.Map.Iter.{deref_pair}
use Rattle.std.proofs.lemmas.Map.Iter.{rest_more, rest_all}
use Rattle.std.specs.Ordering.{nat_cmp}
use Rattle.std.proofs.lemmas.Cmp.{nat_cmp_total}
use Rattle.std.proofs.lemmas.Map.Lookups.{exact_unsigned}
use Rattle.sl_plain.proofs.CopyLaws.{overlay, overlay_none, overlay_one, overlay_all}
use Rattle.sl_plain.proofs.used.Used.copy.Goals as goal

pub loop-fileid-init : goal.loop-fileid-init
loop-fileid-init c = ap (λ es. overlay es c.new-copy.result) (search rules) ∙ ap (overlay c.self.inside.entries.entries) c.new-copy.ensures
    ∙ overlay_all nat_cmp nat_cmp_total exact_unsigned c.self.inside.entries.entries c.iter-fileid-items.ensures.ordered ∙ c.self.view_is

pub loop-fileid-preserved : goal.loop-fileid-preserved
loop-fileid-preserved c = ap (overlay c.next.new.self) c.in_ok-put.ensures ∙ overlay_one (c.in-Some.fileid.now, c.in-Some.field-0-1.now) c.next.new.self c.loop-fileid.copy
    ∙ sym (ap (λ es. overlay es c.loop-fileid.copy) (rest_more deref_pair c.loop-fileid.fileid-iterator c.next.new.self c.next.result (c.in-Some.fileid, c.in-Some.field-0-1) c.in-Some.is c.next.ensures.steps)) ∙ c.loop-fileid.invariant

pub returns : goal.returns
returns c = sym (overlay_none c.loop-fileid.copy) ∙ sym (ap (λ es. overlay es c.loop-fileid.copy) (rest_all deref_pair c.loop-fileid.fileid-iterator c.next.new.self c.next.result c.in-None.is c.next.ensures.steps)) ∙ c.loop-fileid.invariant
