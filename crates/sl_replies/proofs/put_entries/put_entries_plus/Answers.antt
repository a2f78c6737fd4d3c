use Rattle.std.proofs.Common.{◌≡◌, ◌∙◌, ◌+◌, ◌++◌, ◌∷◌, [], List, ℕ, take, ap, sym, append_assoc, arith}
use Rattle.std.proofs.lemmas.List.{take_more, take_all}
use Rattle.sl_defs.specs.Items.{u32_text}
use Rattle.sl_replies.specs.Texts.{entry_plus_text, list_text}
use Rattle.sl_replies.proofs.Lists.{kept_through, front_grows, front_ends, front_begins, front_text}
use Rattle.sl_replies.proofs.put_entries.put_entries_plus.Goals as goal

pub loop-entry-init : goal.loop-entry-init
loop-entry-init c = front_begins entry_plus_text c.args.out.now.items

pub returns-in_err-put_entry_plus-clause-kept : goal.returns-in_err-put_entry_plus-clause-kept
returns-in_err-put_entry_plus-clause-kept c =
    let front = front_text entry_plus_text (take c.loop-entry.entry-index c.as_slice-entry-items.result.now) in
    kept_through c.args.out.now.items (front ++ u32_text 1) c.put_flag.new.out.items c.put_entry_plus.new.out.items
    (c.in_ok-put_flag.ensures.ok ∙ ap (λ (t : List ℕ). t ++ u32_text 1) c.loop-entry.invariant ∙ append_assoc c.args.out.now.items front (u32_text 1))
    c.put_entry_plus.ensures.kept

pub loop-entry-preserved : goal.loop-entry-preserved
loop-entry-preserved c =
    let entries = c.as_slice-entry-items.result.now in
    let before = take c.loop-entry.entry-index entries in
    let last : take (c.loop-entry.entry-index + 1) entries ≡ before ++ c.entry-item.result ∷ [] = take_more entries c.loop-entry.entry-index c.entry-item.result (omega arith) ∙ ap (λ x. before ++ x ∷ []) (sym c.entry-item.is) in
    rw last (c.in_ok-put_entry_plus.ensures.ok ∙ ap (λ (t : List ℕ). t ++ entry_plus_text c.entry-item.result) c.in_ok-put_flag.ensures.ok ∙ front_grows entry_plus_text c.args.out.now.items c.loop-entry.out.items before c.entry-item.result c.loop-entry.invariant)

pub returns-clause-ok : goal.returns-clause-ok
returns-clause-ok c =
    let entries = c.as_slice-entry-items.result.now in
    let all : take c.loop-entry.entry-index entries ≡ c.args.entries.now = take_all c.loop-entry.entry-index entries (omega arith) ∙ c.as_slice-entry-items.ensures in
    c.in_ok-put_flag-2.ensures.ok
    ∙ front_ends entry_plus_text c.args.out.now.items c.loop-entry.out.items (take c.loop-entry.entry-index entries) c.loop-entry.invariant
    ∙ ap (λ xs. c.args.out.now.items ++ list_text entry_plus_text xs) all
