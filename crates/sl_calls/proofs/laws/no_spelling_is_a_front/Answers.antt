use Rattle.sl_calls.proofs.Texts.{no_front}
use Rattle.sl_calls.proofs.laws.no_spelling_is_a_front.Goals as goal

pub returns : goal.returns
returns c = no_front
