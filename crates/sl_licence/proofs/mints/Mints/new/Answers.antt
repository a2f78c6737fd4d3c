use Rattle.sl_licence.proofs.Minting.{none_minted}
use Rattle.sl_licence.proofs.mints.Mints.new.Goals as goal

pub returns : goal.returns
returns c = none_minted (record { numbers = c.new.result; exhausted = c.new-2.result }) c.new-2.ensures.empty
