use Rattle.std.proofs.Common.{arith}
use Rattle.sl_records.specs.Records.{log_text, FitsLog, ShortLog}
use Rattle.sl_records.proofs.RecordReaders.{log_reads, is_found, is_only, is_bad}
use Rattle.sl_records.proofs.Shorts.{log_short, on_ok}
use Rattle.sl_records.proofs.coordinator.LogEntry.read.Goals as goal

pub returns-clause-found : goal.returns-clause-found
returns-clause-found c = is_found log_reads c.args.bytes.now c.read_record.result (λ i. omega (arith, c.type_inv.bytes i)) c.read_record.ensures

pub returns-clause-only : goal.returns-clause-only
returns-clause-only c = is_only log_reads c.args.bytes.now c.read_record.result c.read_record.ensures

pub returns-clause-short : goal.returns-clause-short
returns-clause-short c = on_ok log_text FitsLog ShortLog c.args.bytes.now log_short c.read_record.result (is_found log_reads c.args.bytes.now c.read_record.result (λ i. omega (arith, c.type_inv.bytes i)) c.read_record.ensures)

pub returns-clause-bad : goal.returns-clause-bad
returns-clause-bad c = is_bad log_reads c.args.bytes.now c.read_record.result c.read_record.ensures
