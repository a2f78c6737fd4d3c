use Rattle.sl_laws.proofs.Following.{flush_keeps_views}
use Rattle.sl_laws.proofs.seeing.flush_keeps_views.Goals as goal

pub returns : goal.returns
returns c = flush_keeps_views
