use Rattle.std.proofs.Common.{arith}
use Rattle.sl_records.specs.Records.{proxy_text, FitsProxy, ShortProxy}
use Rattle.sl_records.proofs.RecordReaders.{proxy_reads, is_found, is_only, is_bad}
use Rattle.sl_records.proofs.Shorts.{proxy_short, on_ok}
use Rattle.sl_records.proofs.proxy.ProxyRecord.read.Goals as goal

pub returns-clause-found : goal.returns-clause-found
returns-clause-found c = is_found proxy_reads c.args.bytes.now c.read_record.result (λ i. omega (arith, c.type_inv.bytes i)) c.read_record.ensures

pub returns-clause-only : goal.returns-clause-only
returns-clause-only c = is_only proxy_reads c.args.bytes.now c.read_record.result c.read_record.ensures

pub returns-clause-short : goal.returns-clause-short
returns-clause-short c = on_ok proxy_text FitsProxy ShortProxy c.args.bytes.now proxy_short c.read_record.result (is_found proxy_reads c.args.bytes.now c.read_record.result (λ i. omega (arith, c.type_inv.bytes i)) c.read_record.ensures)

pub returns-clause-bad : goal.returns-clause-bad
returns-clause-bad c = is_bad proxy_reads c.args.bytes.now c.read_record.result c.read_record.ensures
