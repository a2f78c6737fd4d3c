use Rattle.sl_refusals.proofs.Answers.{effect_replies_are_told_apart}
use Rattle.sl_refusals.proofs.effect_replies_are_told_apart.Goals as goal

pub returns : goal.returns
returns c = effect_replies_are_told_apart
