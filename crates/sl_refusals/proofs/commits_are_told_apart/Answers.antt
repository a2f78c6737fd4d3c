use Rattle.sl_refusals.proofs.Commits.{commits_are_told_apart}
use Rattle.sl_refusals.proofs.commits_are_told_apart.Goals as goal

pub returns : goal.returns
returns c = commits_are_told_apart
