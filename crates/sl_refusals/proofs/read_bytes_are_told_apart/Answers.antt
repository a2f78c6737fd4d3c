use Rattle.sl_refusals.proofs.ServedBytes.{read_bytes_are_told_apart}
use Rattle.sl_refusals.proofs.read_bytes_are_told_apart.Goals as goal

pub returns : goal.returns
returns c = read_bytes_are_told_apart
