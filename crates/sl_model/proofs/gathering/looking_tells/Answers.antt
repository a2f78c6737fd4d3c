use Rattle.sl_model.proofs.Cells.{looking_tells}
use Rattle.sl_model.proofs.gathering.looking_tells.Goals as goal

pub returns : goal.returns
returns c = looking_tells
