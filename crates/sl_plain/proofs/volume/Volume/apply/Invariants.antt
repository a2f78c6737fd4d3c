use Rattle.std.proofs.Common.{◌≡◌}
use Rattle.std.specs.Prelude.{map}
use Rattle.std.specs.Vec.Iter.{into_iter_items}
use Rattle.sl_model.specs.Volume.{after_changes}
use Rattle.sl_plain.specs.Outcomes.{change_of}
use Rattle.sl_plain.proofs.volume.Volume.apply.Given as goal

-- the changes that are left make the volume after all
abbrev pub invariant-loop-change : goal.invariant-loop-change
invariant-loop-change l = after_changes (map change_of (into_iter_items l.change-iterator)) l.self ≡ after_changes l.fn.changes l.initial.self
