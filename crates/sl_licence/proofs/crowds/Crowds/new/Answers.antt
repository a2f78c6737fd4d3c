use Rattle.sl_licence.proofs.Crowding.{no_crowds}
use Rattle.sl_licence.proofs.crowds.Crowds.new.Goals as goal

pub returns : goal.returns
returns c = λ start. no_crowds start (record { crowds = c.new.result }) c.new.ensures.items
