use Rattle.sl_refusals.proofs.Servers.{quiet_files_are_told_apart}
use Rattle.sl_refusals.proofs.quiet_files_are_told_apart.Goals as goal

pub returns : goal.returns
returns c = quiet_files_are_told_apart
