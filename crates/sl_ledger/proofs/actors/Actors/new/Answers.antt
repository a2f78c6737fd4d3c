use Rattle.sl_ledger.proofs.UpLaws.{none_up}
use Rattle.sl_ledger.proofs.actors.Actors.new.Goals as goal

pub returns : goal.returns
returns c = λ a. none_up 256 a
