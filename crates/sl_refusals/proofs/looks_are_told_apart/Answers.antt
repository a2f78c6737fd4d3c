use Rattle.sl_refusals.proofs.Looks.{looks_are_told_apart}
use Rattle.sl_refusals.proofs.looks_are_told_apart.Goals as goal

pub returns : goal.returns
returns c = looks_are_told_apart
