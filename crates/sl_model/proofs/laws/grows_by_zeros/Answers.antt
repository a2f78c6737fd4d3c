use Rattle.sl_model.proofs.Zeros.{grows_by_zeros}
use Rattle.sl_model.proofs.laws.grows_by_zeros.Goals as goal

pub returns : goal.returns
returns c = grows_by_zeros
