use Rattle.sl_licence.proofs.Flushing.{none_given}
use Rattle.sl_licence.proofs.flushes.Flushes.new.Goals as goal

pub returns : goal.returns
returns c = none_given (record { given = c.new.result; unused = c.new-2.result }) c.new.ensures.empty c.new-2.ensures.empty
