use Rattle.sl_refusals.proofs.Requests.{answers_are_told_apart}
use Rattle.sl_refusals.proofs.answers_are_told_apart.Goals as goal

pub returns : goal.returns
returns c = answers_are_told_apart
