use Rattle.std.proofs.Common.{◌≡◌, ◌++◌, length}
use Rattle.sl_journal.specs.Format.{records_text, AreShort}
use Rattle.sl_journal.proofs.Texts.{Unread}
use Rattle.sl_journal.proofs.reading.read_records.Given as goal

abbrev pub invariant-loop-records : goal.invariant-loop-records
invariant-loop-records l = record { spelled : l.bytes ≡ records_text l.records ++ l.rest; short : AreShort l.records; unread : Unread l.bytes l.rest l.records }

abbrev pub decreases-loop-records : goal.decreases-loop-records
decreases-loop-records l = length l.rest
