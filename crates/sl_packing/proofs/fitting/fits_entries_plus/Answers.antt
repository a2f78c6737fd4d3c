use Rattle.std.proofs.Common.{◌≡◌, ◌∙◌, ◌+◌, ◌++◌, ◌∷◌, [], All, take, ap, sym, subst, refl, rules, arith}
use Rattle.std.proofs.lemmas.List.{take_more, take_all}
use Rattle.std.proofs.lemmas.List.Elements.{All-push}
use Rattle.sl_replies.specs.Texts.{FitsEntryPlus}
use Rattle.sl_packing.proofs.fitting.fits_entries_plus.Goals as goal

pub loop-entry-preserved : goal.loop-entry-preserved
loop-entry-preserved c =
    let entries = c.as_slice-entry-items.result.now in
    let i = c.loop-entry.entry-index in
    let last : take (i + 1) entries ≡ take i entries ++ c.entry-item.result ∷ [] = take_more entries i c.entry-item.result (omega arith) ∙ ap (λ x. take i entries ++ x ∷ []) (sym c.entry-item.is) in
    subst (All FitsEntryPlus) (sym last) (All-push FitsEntryPlus (take i entries) c.entry-item.result c.loop-entry.invariant (c.fits_entry_plus.ensures.0 (search rules)))

pub returns : goal.returns
returns c =
    let entries = c.as_slice-entry-items.result.now in
    let all : take c.loop-entry.entry-index entries ≡ c.args.entries.now = take_all c.loop-entry.entry-index entries (omega arith) ∙ c.as_slice-entry-items.ensures in
    (λ yes. subst (All FitsEntryPlus) all c.loop-entry.invariant, λ fit. refl)
