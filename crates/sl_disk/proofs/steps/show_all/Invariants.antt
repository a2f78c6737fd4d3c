use Rattle.std.proofs.Common.{◌≡◌, drop}
use Rattle.sl_disk.specs.Images.{after_steps}
use Rattle.sl_disk.proofs.steps.show_all.Given as goal

abbrev pub invariant-loop-step : goal.invariant-loop-step
invariant-loop-step l = after_steps l.image l.left.items (drop l.step-index l.steps) ≡ after_steps l.image l.initial.left.items l.steps
