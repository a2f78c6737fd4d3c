use Rattle.sl_refusals.proofs.Fileids.{want_of_fileids_is_told_apart}
use Rattle.sl_refusals.proofs.want_of_fileids_is_told_apart.Goals as goal

pub returns : goal.returns
returns c = want_of_fileids_is_told_apart
