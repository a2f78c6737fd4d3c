use Rattle.sl_witness.proofs.Openings.{the_ensemble_opens}
use Rattle.sl_witness.proofs.the_ensemble_opens.Goals as goal

pub returns : goal.returns
returns c = the_ensemble_opens
