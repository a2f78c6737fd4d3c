use Rattle.sl_refusals.proofs.Bytes.{bytes_are_told_apart}
use Rattle.sl_refusals.proofs.bytes_are_told_apart.Goals as goal

pub returns : goal.returns
returns c = bytes_are_told_apart
