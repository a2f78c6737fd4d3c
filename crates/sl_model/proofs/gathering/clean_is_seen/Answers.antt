use Rattle.sl_model.proofs.Cells.{clean_is_seen}
use Rattle.sl_model.proofs.gathering.clean_is_seen.Goals as goal

pub returns : goal.returns
returns c = clean_is_seen
