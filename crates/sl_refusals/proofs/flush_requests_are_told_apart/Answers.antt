use Rattle.sl_refusals.proofs.Flushes.{flush_requests_are_told_apart}
use Rattle.sl_refusals.proofs.flush_requests_are_told_apart.Goals as goal

pub returns : goal.returns
returns c = flush_requests_are_told_apart
