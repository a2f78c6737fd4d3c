use Rattle.sl_laws.proofs.Unseen.{flush_keeps_bytes}
use Rattle.sl_laws.proofs.seeing.flush_keeps_bytes.Goals as goal

pub returns : goal.returns
returns c = flush_keeps_bytes
