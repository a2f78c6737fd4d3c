use Rattle.sl_replies.specs.Reading.{entry_plus_at}
use Rattle.sl_replies.proofs.Passing.{Passed}
use Rattle.sl_replies.proofs.skipping.skip_entries_plus.Given as goal

abbrev pub invariant-loop-i : goal.invariant-loop-i
invariant-loop-i l = Passed entry_plus_at l.most l._i l.fn.cursor.rest l.cursor.rest
