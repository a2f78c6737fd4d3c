use Rattle.std.proofs.Common.{◌∙◌, sym, ap, rules}
use Rattle.std.specs.Prelude.{map as each}
use Rattle.std.specs.FinMap as map
use Rattle.std.specs.Map.Iter.{deref_pair}
use Rattle.std.proofs.lemmas.Map.Iter.{rest_more, rest_all}
use Rattle.sl_model.specs.Volume.{name_cmp}
use Rattle.sl_plain.specs.Maps.{named}
use Rattle.sl_plain.proofs.MapLaws.{names_total, exact_names}
use Rattle.sl_plain.proofs.CopyLaws.{overlay, overlay_none, overlay_one, overlay_all, sorted_named}
use Rattle.sl_plain.proofs.names.Names.copy.Goals as goal

pub loop-place-init : goal.loop-place-init
loop-place-init c = ap (λ es. overlay (each named es) c.new-copy.result) (search rules) ∙ ap (overlay (each named c.self.inside.entries.entries)) c.new-copy.ensures
    ∙ overlay_all name_cmp names_total exact_names (each named c.self.inside.entries.entries) (sorted_named c.self.inside.entries.entries c.iter-place-items.ensures.ordered) ∙ c.self.view_is

pub loop-place-preserved : goal.loop-place-preserved
loop-place-preserved c =
    let copied = c.in_ok-put.ensures ∙ ap (λ d. map.insert c.loop-place.copy (d, c.in_ok-of.field-0.name.items) c.in-Some.entry.now) c.in_ok-of.ensures.0
    ∙ ap (λ n. map.insert c.loop-place.copy (c.in-Some.place.now.dir, n) c.in-Some.entry.now) (c.in_ok-of.ensures.1 ∙ c.as_slice.ensures.value) in
    ap (overlay (each named c.next.new.self)) copied ∙ overlay_one (named (c.in-Some.place.now, c.in-Some.entry.now)) (each named c.next.new.self) c.loop-place.copy
    ∙ sym (ap (λ es. overlay (each named es) c.loop-place.copy) (rest_more deref_pair c.loop-place.place-iterator c.next.new.self c.next.result (c.in-Some.place, c.in-Some.entry) c.in-Some.is c.next.ensures.steps)) ∙ c.loop-place.invariant

pub returns : goal.returns
returns c = sym (overlay_none c.loop-place.copy) ∙ sym (ap (λ es. overlay (each named es) c.loop-place.copy) (rest_all deref_pair c.loop-place.place-iterator c.next.new.self c.next.result c.in-None.is c.next.ensures.steps)) ∙ c.loop-place.invariant
