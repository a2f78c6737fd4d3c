use Rattle.sl_laws.proofs.Following.{views_follow}
use Rattle.sl_laws.proofs.seeing.views_follow.Goals as goal

pub returns : goal.returns
returns c = views_follow
