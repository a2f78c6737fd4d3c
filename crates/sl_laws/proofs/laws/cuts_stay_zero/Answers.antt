use Rattle.sl_laws.proofs.Cutting.{cuts_stay_zero}
use Rattle.sl_laws.proofs.laws.cuts_stay_zero.Goals as goal

pub returns : goal.returns
returns c = cuts_stay_zero
