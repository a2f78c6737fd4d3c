use Rattle.std.proofs.Common.{arith}
use Rattle.sl_records.specs.Records.{dir_text, FitsDir, ShortDir}
use Rattle.sl_records.proofs.RecordReaders.{dir_reads, is_found, is_only, is_bad}
use Rattle.sl_records.proofs.Shorts.{dir_short, on_ok}
use Rattle.sl_records.proofs.directory.DirRecord.read.Goals as goal

pub returns-clause-found : goal.returns-clause-found
returns-clause-found c = is_found dir_reads c.args.bytes.now c.read_record.result (λ i. omega (arith, c.type_inv.bytes i)) c.read_record.ensures

pub returns-clause-only : goal.returns-clause-only
returns-clause-only c = is_only dir_reads c.args.bytes.now c.read_record.result c.read_record.ensures

pub returns-clause-short : goal.returns-clause-short
returns-clause-short c = on_ok dir_text FitsDir ShortDir c.args.bytes.now dir_short c.read_record.result (is_found dir_reads c.args.bytes.now c.read_record.result (λ i. omega (arith, c.type_inv.bytes i)) c.read_record.ensures)

pub returns-clause-bad : goal.returns-clause-bad
returns-clause-bad c = is_bad dir_reads c.args.bytes.now c.read_record.result c.read_record.ensures
