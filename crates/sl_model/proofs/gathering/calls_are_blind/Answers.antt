use Rattle.sl_model.proofs.Blind.{calls_are_blind}
use Rattle.sl_model.proofs.gathering.calls_are_blind.Goals as goal

pub returns : goal.returns
returns c = calls_are_blind
