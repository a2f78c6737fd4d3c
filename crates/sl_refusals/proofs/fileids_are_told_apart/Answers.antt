use Rattle.sl_refusals.proofs.Effects.{fileids_are_told_apart}
use Rattle.sl_refusals.proofs.fileids_are_told_apart.Goals as goal

pub returns : goal.returns
returns c = fileids_are_told_apart
