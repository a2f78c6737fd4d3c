use Rattle.sl_refusals.proofs.Commits.{instant_replies_are_told_apart}
use Rattle.sl_refusals.proofs.instant_replies_are_told_apart.Goals as goal

pub returns : goal.returns
returns c = instant_replies_are_told_apart
