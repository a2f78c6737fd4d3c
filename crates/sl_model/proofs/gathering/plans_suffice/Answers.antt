use Rattle.sl_model.proofs.Cells.{plans_suffice}
use Rattle.sl_model.proofs.gathering.plans_suffice.Goals as goal

pub returns : goal.returns
returns c = plans_suffice
