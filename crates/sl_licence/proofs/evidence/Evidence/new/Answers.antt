use Rattle.std.proofs.Common.{refl}
use Rattle.sl_history.specs.Licensed.{may_be_lost}
use Rattle.sl_licence.proofs.evidence.Evidence.new.Goals as goal

pub returns : goal.returns
unfolding may_be_lost
returns c = record { ledger = c.in_ok-ledger.ensures; lost = refl; flushes = c.new-2.ensures; requests = c.new-3.ensures; flushing = c.new-4.ensures; mints = c.new-5.ensures }
