use Rattle.std.proofs.Common.{◌≡◌, ◌-◌}
use Rattle.sl_disk.specs.Shelf.{put}
use Rattle.sl_disk.specs.Images.{junk}
use Rattle.sl_disk.proofs.steps.spoil.Given as goal

abbrev pub invariant-loop-place : goal.invariant-loop-place
invariant-loop-place l = l.file.items ≡ put l.initial.file.items l.from (junk l.image l.from (l.place - l.from))
