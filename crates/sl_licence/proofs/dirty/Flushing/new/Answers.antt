use Rattle.sl_licence.proofs.Flowing.{nothing_flushing}
use Rattle.sl_licence.proofs.dirty.Flushing.new.Goals as goal

pub returns : goal.returns
returns c = nothing_flushing (record { files = c.new.result }) c.new.ensures.items
