use Rattle.std.proofs.Common.{◌≡◌, drop}
use Rattle.sl_frames.specs.Works.{rise_above}
use Rattle.sl_frames.proofs.intent.actors_rise.Given as goal

abbrev pub invariant-loop-part : goal.invariant-loop-part
invariant-loop-part l = rise_above 0 l.parts ≡ rise_above l.last (drop l.part-index l.parts)
