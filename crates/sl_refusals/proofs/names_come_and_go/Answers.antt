use Rattle.sl_refusals.proofs.NamesComeAndGo.{names_come_and_go}
use Rattle.sl_refusals.proofs.names_come_and_go.Goals as goal

pub returns : goal.returns
returns c = names_come_and_go
