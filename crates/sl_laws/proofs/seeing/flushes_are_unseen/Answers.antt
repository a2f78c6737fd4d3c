use Rattle.sl_laws.proofs.Unseen.{flushes_are_unseen}
use Rattle.sl_laws.proofs.seeing.flushes_are_unseen.Goals as goal

pub returns : goal.returns
returns c = flushes_are_unseen
