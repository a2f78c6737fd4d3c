use Rattle.std.proofs.Common.{refl}
use Rattle.sl_recall.proofs.ChangeLaws.{nothing_changed}
use Rattle.sl_recall.proofs.changes.Changes.new.Goals as goal

pub returns : goal.returns
returns c = nothing_changed (record { newest = 0; last = 0; before = 0 }) refl refl refl
