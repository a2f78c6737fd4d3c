use Rattle.sl_examples.proofs.Frames.{frames_are_told_apart}
use Rattle.sl_examples.proofs.frames_are_told_apart.Goals as goal

pub returns : goal.returns
returns c = frames_are_told_apart
