use Rattle.std.proofs.Common.{◌≡◌, ◌++◌, take}
use Rattle.sl_replies.specs.Texts.{entry_text}
use Rattle.sl_replies.proofs.Lists.{front_text}
use Rattle.sl_replies.proofs.put_entries.put_entries.Given as goal

abbrev pub invariant-loop-entry : goal.invariant-loop-entry
invariant-loop-entry l = l.out.items ≡ l.fn.out.items ++ front_text entry_text (take l.entry-index l.entry-items)
