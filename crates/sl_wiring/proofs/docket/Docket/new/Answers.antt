use Rattle.std.proofs.Common.{refl, sym}
use Rattle.sl_wiring.proofs.Docketing.{volume_of_none}
use Rattle.sl_wiring.proofs.docket.Docket.new.Goals as goal

pub returns : goal.returns
returns c = record { setup_is = refl; ledger = c.in_ok-ledger.ensures; volume = sym (volume_of_none c.args.volume); given = c.new-2.ensures; newest = tt }
