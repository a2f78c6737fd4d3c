use Rattle.sl_cells.proofs.OneText.{one_text}
use Rattle.sl_records.proofs.RecordReaders.{proxy_reads, log_reads, dir_reads, data_reads}
use Rattle.sl_records.proofs.laws.texts_are_read.Goals as goal

pub returns : goal.returns
returns c = record {
  proxy = one_text proxy_reads;
  coordinator = one_text log_reads;
  directory = one_text dir_reads;
  bytes = one_text data_reads;
}
