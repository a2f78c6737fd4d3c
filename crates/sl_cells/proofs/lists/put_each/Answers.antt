use Rattle.std.proofs.Common.{◌≡◌, ◌∙◌, ◌+◌, ◌++◌, ◌∷◌, [], List, ℕ, take, length, ap, sym, append_assoc, arith}
use Rattle.std.proofs.lemmas.List.{take_more, take_all}
use Rattle.sl_cells.specs.Lists.{texts}
use Rattle.sl_cells.proofs.Elements.{kept_through, texts_begin, texts_grow}
use Rattle.sl_cells.proofs.lists.put_each.Goals as goal

pub loop-item-init : goal.loop-item-init
loop-item-init g c = texts_begin g.T.Item.text c.args.out.now.items

pub returns-in_err-put-clause-kept : goal.returns-in_err-put-clause-kept
returns-in_err-put-clause-kept g c =
    let front = texts g.T.Item.text (take c.loop-item.item-index c.args.items.now) in
    kept_through c.args.out.now.items front c.loop-item.out.items c.put.new.out.items c.loop-item.invariant c.put.ensures.kept

pub loop-item-preserved : goal.loop-item-preserved
loop-item-preserved g c =
    let items = c.args.items.now in
    let before = take c.loop-item.item-index items in
    let last : take (c.loop-item.item-index + 1) items ≡ before ++ c.item-item.result ∷ [] = take_more items c.loop-item.item-index c.item-item.result (omega arith) ∙ ap (λ x. before ++ x ∷ []) (sym c.item-item.is) in
    rw last (c.in_ok-put.ensures.ok ∙ texts_grow g.T.Item.text c.args.out.now.items c.loop-item.out.items before c.item-item.result c.loop-item.invariant)

pub returns-clause-ok : goal.returns-clause-ok
returns-clause-ok g c =
    let items = c.args.items.now in
    let all : take c.loop-item.item-index items ≡ items = take_all c.loop-item.item-index items (omega arith) in
    c.loop-item.invariant ∙ ap (λ xs. c.args.out.now.items ++ texts g.T.Item.text xs) all
