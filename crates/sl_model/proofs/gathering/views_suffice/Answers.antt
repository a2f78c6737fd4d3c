use Rattle.sl_model.proofs.Cells.{views_suffice}
use Rattle.sl_model.proofs.gathering.views_suffice.Goals as goal

pub returns : goal.returns
returns c = views_suffice
