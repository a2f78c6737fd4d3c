use Rattle.std.proofs.Common.{◌≡◌, ◌∙◌, ◌+◌, ◌++◌, ◌∷◌, [], map, take, ap, sym, arith}
use Rattle.std.proofs.lemmas.List.{take_more, take_all}
use Rattle.sl_past.specs.Transcripts.{remarks_text}
use Rattle.sl_past.specs.Words.{remark_of}
use Rattle.slice.proofs.Noting.{nothing_noted, one_more_noted}
use Rattle.slice.proofs.printing.put_notes.Goals as goal

pub loop-remark-init : goal.loop-remark-init
loop-remark-init c = nothing_noted c.args.out.now.items

pub loop-remark-preserved : goal.loop-remark-preserved
loop-remark-preserved c =
    let notes = c.args.remarks.now in
    let before = take c.loop-remark.remark-index notes in
    let last : take (c.loop-remark.remark-index + 1) notes ≡ before ++ c.remark-item.result ∷ [] = take_more notes c.loop-remark.remark-index c.remark-item.result (omega arith) ∙ ap (λ x. before ++ x ∷ []) (sym c.remark-item.is) in
    rw last (c.in_ok-put_note.ensures ∙ one_more_noted c.args.out.now.items c.loop-remark.out.items before c.remark-item.result c.loop-remark.invariant)

pub returns : goal.returns
returns c =
    let notes = c.args.remarks.now in
    let all : take c.loop-remark.remark-index notes ≡ notes = take_all c.loop-remark.remark-index notes (omega arith) in
    c.loop-remark.invariant ∙ ap (λ xs. c.args.out.now.items ++ remarks_text (map remark_of xs)) all
