use Rattle.sl_frames.proofs.FrameReaders.{one_frame}
use Rattle.sl_frames.proofs.laws.texts_are_unique.Goals as goal

pub returns : goal.returns
returns c = one_frame
