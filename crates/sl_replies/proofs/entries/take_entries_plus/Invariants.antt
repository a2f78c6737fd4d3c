use Rattle.sl_replies.specs.Reading.{entry_plus_at}
use Rattle.sl_replies.proofs.Lists.{SoFar}
use Rattle.sl_replies.proofs.entries.take_entries_plus.Given as goal

abbrev pub invariant-loop-i : goal.invariant-loop-i
invariant-loop-i l = SoFar entry_plus_at l.most l._i l.fn.cursor.rest l.entries.items l.cursor.rest
