use Rattle.std.proofs.Common.{arith}
use Rattle.sl_records.specs.Records.{data_text, FitsData, ShortData}
use Rattle.sl_records.proofs.RecordReaders.{data_reads, is_found, is_only, is_bad}
use Rattle.sl_records.proofs.Shorts.{data_short, on_ok}
use Rattle.sl_records.proofs.data_server.DataRecord.read.Goals as goal

pub returns-clause-found : goal.returns-clause-found
returns-clause-found c = is_found data_reads c.args.bytes.now c.read_record.result (λ i. omega (arith, c.type_inv.bytes i)) c.read_record.ensures

pub returns-clause-only : goal.returns-clause-only
returns-clause-only c = is_only data_reads c.args.bytes.now c.read_record.result c.read_record.ensures

pub returns-clause-short : goal.returns-clause-short
returns-clause-short c = on_ok data_text FitsData ShortData c.args.bytes.now data_short c.read_record.result (is_found data_reads c.args.bytes.now c.read_record.result (λ i. omega (arith, c.type_inv.bytes i)) c.read_record.ensures)

pub returns-clause-bad : goal.returns-clause-bad
returns-clause-bad c = is_bad data_reads c.args.bytes.now c.read_record.result c.read_record.ensures
