use Rattle.sl_model.proofs.Cells.{views_fit}
use Rattle.sl_model.proofs.gathering.views_fit.Goals as goal

pub returns : goal.returns
returns c = views_fit
