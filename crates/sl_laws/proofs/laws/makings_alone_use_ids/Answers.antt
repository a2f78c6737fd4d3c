use Rattle.sl_laws.proofs.Performing.{makings_alone_use_ids}
use Rattle.sl_laws.proofs.laws.makings_alone_use_ids.Goals as goal

pub returns : goal.returns
returns c = makings_alone_use_ids
