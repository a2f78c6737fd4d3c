use Rattle.sl_model.proofs.Keeping.{reading_keeps}
use Rattle.sl_model.proofs.laws.reading_keeps.Goals as goal

pub returns : goal.returns
returns c = reading_keeps
