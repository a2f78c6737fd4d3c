use Rattle.std.proofs.Common.{◌∙◌, sym, ap, rules}
use Rattle.std.specs.Map.Iter.{deref_pair}
use Rattle.std.proofs.lemmas.Map.Iter.{rest_more, rest_all}
use Rattle.sl_model.specs.Volume.{place_cmp}
use Rattle.sl_plain.proofs.MapLaws.{places_total, exact_places}
use Rattle.sl_plain.proofs.CopyLaws.{overlay, overlay_none, overlay_one, overlay_all}
use Rattle.sl_plain.proofs.written.Written.copy.Goals as goal

pub loop-place-init : goal.loop-place-init
loop-place-init c = ap (λ es. overlay es c.new-copy.result) (search rules) ∙ ap (overlay c.self.inside.entries.entries) c.new-copy.ensures
    ∙ overlay_all place_cmp places_total exact_places c.self.inside.entries.entries c.iter-place-items.ensures.ordered ∙ c.self.view_is

pub loop-place-preserved : goal.loop-place-preserved
loop-place-preserved c = ap (overlay c.next.new.self) c.in_ok-put.ensures ∙ overlay_one (c.in-Some.place.now, c.in-Some.byte.now) c.next.new.self c.loop-place.copy
    ∙ sym (ap (λ es. overlay es c.loop-place.copy) (rest_more deref_pair c.loop-place.place-iterator c.next.new.self c.next.result (c.in-Some.place, c.in-Some.byte) c.in-Some.is c.next.ensures.steps)) ∙ c.loop-place.invariant

pub returns : goal.returns
returns c = sym (overlay_none c.loop-place.copy) ∙ sym (ap (λ es. overlay es c.loop-place.copy) (rest_all deref_pair c.loop-place.place-iterator c.next.new.self c.next.result c.in-None.is c.next.ensures.steps)) ∙ c.loop-place.invariant
